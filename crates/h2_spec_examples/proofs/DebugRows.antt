-- Positions of the debugger, computed: 130 items, which are the preface, SETTINGS, 97 PING, HEADERS on stream 3, and
-- 30 PING.
use Rattle.std.specs.Prelude.{◌≡◌, ℕ, ◌++◌, List, [], ◌∷◌, refl, codes, replicate, flat_map, length}
use Rattle.h2_spec.specs.declared.connection.Config.{Config}
use Rattle.h2_spec.specs.Opening.{opening_settings}
use Rattle.h2_spec.specs.State.{State, limits, opening}
use Rattle.h2_spec.specs.Trace.{Event, trace}
use Rattle.h2_spec.specs.Texts.Debug.{state_at, sent_at, stop, Break, AtPosition, OnType, OnStream, OnSent}
use Rattle.h2_spec_examples.proofs.Hex.{hex}

abbrev default : Config
default = limits 100 32768

abbrev pings : ℕ → List ℕ
pings n = flat_map (λ (k : ℕ). hex (codes "0000080600000000000102030405060708")) (replicate n 0)

abbrev octets : List ℕ
octets = hex (codes "505249202a20485454502f322e300d0a0d0a534d0d0a0d0a000000040000000000") ++ pings 97 ++ hex (codes "000003010400000003828684") ++ pings 30

events : List Event
unfolding trace
events = (trace (opening [] default) octets).events

stops : List Break → ℕ → ℕ
unfolding stop events
stops breaks p = stop breaks events p

items_are_counted : length events ≡ 130
unfolding events
items_are_counted = refl

stops_on_the_stream : stops (OnStream 3 ∷ []) 0 ≡ 100
unfolding stops
stops_on_the_stream = refl

stops_once : stops (OnStream 3 ∷ []) 100 ≡ 130
unfolding stops
stops_once = refl

stops_at_a_position : stops (OnStream 3 ∷ AtPosition 7 ∷ []) 0 ≡ 7
unfolding stops
stops_at_a_position = refl

position_behind_is_not_met : stops (AtPosition 7 ∷ []) 7 ≡ 130
unfolding stops
position_behind_is_not_met = refl

stops_on_the_type : stops (OnType 6 ∷ []) 0 ≡ 3
unfolding stops
stops_on_the_type = refl

stops_on_what_is_sent : stops (OnSent 4 ∷ []) 0 ≡ 2
unfolding stops
stops_on_what_is_sent = refl

acknowledgement_is_sent_once : stops (OnSent 4 ∷ []) 2 ≡ 130
unfolding stops
acknowledgement_is_sent_once = refl

stops_on_the_ping_sent : stops (OnSent 6 ∷ []) 0 ≡ 3
unfolding stops
stops_on_the_ping_sent = refl

last_before : State
unfolding events
last_before = state_at (opening [] default) events 99

last_after : State
unfolding events
last_after = state_at (opening [] default) events 100

no_stream_at_99 : last_before.core.last ≡ 0
unfolding last_before
no_stream_at_99 = refl

stream_3_at_100 : last_after.core.last ≡ 3
unfolding last_after
stream_3_at_100 = refl

opening_is_sent_at_0 : sent_at (opening_settings default ∷ []) events 0 ≡ opening_settings default ∷ []
opening_is_sent_at_0 = refl
