-- Whole runs with long bodies, computed: how the pending output is sent.
use Rattle.std.specs.Prelude.{◌≡◌, ℕ, ◌++◌, List, [], ◌∷◌, refl, codes, replicate, Option, Some, None, ℤ, pos, negsuc, map}
use Prim.Native.String.{String}
use Rattle.h2_spec.specs.declared.connection.Config.{Config}
use Rattle.h2_spec.specs.declared.streams.Stream.{Stream}
use Rattle.h2_spec.specs.Requests.Answer.{Entry, answer}
use Rattle.h2_spec.specs.State.{State, limits, opening}
use Rattle.h2_spec.specs.Trace.{trace, sent_octets}
use Rattle.h2_spec_examples.proofs.Hex.{hex}

abbrev default : Config
default = limits 100 32768

-- one answer with a body of this many octets
abbrev long : ℕ → List Entry
long n = record { method = codes "GET"; path = codes "/"; answer = answer 200 [] (replicate n 120) } ∷ []

abbrev request : List ℕ
request = hex (codes "505249202a20485454502f322e300d0a0d0a534d0d0a0d0a000000040000000000000014010500000001828684410f7777772e6578616d706c652e636f6d")

-- the state after the beginning and a GET
answered : ℕ → State
unfolding trace
answered n = (trace (opening (long n) default) request).state

sent_for : State → List ℕ → List ℕ
unfolding trace sent_octets
sent_for s octets = sent_octets (trace s octets).events

after : State → List ℕ → State
unfolding trace
after s octets = (trace s octets).state

abbrev data_frame : String → ℕ → List ℕ
data_frame head n = hex (codes head) ++ replicate n 120

body_is_sent_up_to_the_window : sent_for (opening (long 70000) default) request ≡
    hex (codes "00000004010000000000000101040000000188") ++ data_frame "004000000000000001" 16384 ++ data_frame "004000000000000001" 16384 ++ data_frame "004000000000000001" 16384 ++ data_frame "003fff000000000001" 16383
unfolding sent_for
body_is_sent_up_to_the_window = refl

abbrev more_on_connection : List ℕ
more_on_connection = hex (codes "000004080000000000000186a0")

stream_window_holds_back : sent_for (answered 70000) more_on_connection ≡ []
unfolding sent_for answered
stream_window_holds_back = refl

rest_is_sent_with_the_stream_window : sent_for (answered 70000) (more_on_connection ++ hex (codes "00000408000000000100001171")) ≡ data_frame "001171000100000001" 4465
unfolding sent_for answered
rest_is_sent_with_the_stream_window = refl

connection_window_after_the_rest : (after (answered 70000) (more_on_connection ++ hex (codes "00000408000000000100001171"))).core.send ≡ pos 95535
unfolding after answered
connection_window_after_the_rest = refl

-- the initial window to 0 and back
abbrev to_zero : List ℕ
to_zero = hex (codes "000006040000000000000400000000")

abbrev to_first : List ℕ
to_first = hex (codes "00000604000000000000040000ffff")

windows : State → List ℤ
windows s = map (λ (st : Stream). st.numbers.send) s.streams

window_becomes_negative : windows (after (answered 70000) to_zero) ≡ negsuc 65534 ∷ []
unfolding windows after answered
window_becomes_negative = refl

and_comes_back : windows (after (answered 70000) (to_zero ++ to_first)) ≡ pos 0 ∷ []
unfolding windows after answered
and_comes_back = refl

settings_alone_are_acknowledged : sent_for (answered 70000) (to_zero ++ to_first) ≡ hex (codes "000000040100000000000000040100000000")
unfolding sent_for answered
settings_alone_are_acknowledged = refl

initial_window_moves_streams_alone : sent_for (answered 70000) (more_on_connection ++ hex (codes "00000c040000000000000400000000000400011170")) ≡
    hex (codes "000000040100000000") ++ data_frame "001171000100000001" 4465
unfolding sent_for answered
initial_window_moves_streams_alone = refl

connection_window_after_settings : (after (answered 70000) (more_on_connection ++ hex (codes "00000c040000000000000400000000000400011170"))).core.send ≡ pos 95535
unfolding after answered
connection_window_after_settings = refl

abbrev two_requests : List ℕ
two_requests = hex (codes "505249202a20485454502f322e300d0a0d0a534d0d0a0d0a000000040000000000") ++ hex (codes "000003010500000001828684") ++ hex (codes "000003010500000003828684")

streams_share_the_window : sent_for (opening (long 40000) default) two_requests ≡
    hex (codes "00000004010000000000000101040000000188") ++ data_frame "004000000000000001" 16384 ++ data_frame "004000000000000001" 16384 ++ data_frame "001c40000100000001" 7232 ++
    hex (codes "00000101040000000388") ++ data_frame "004000000000000003" 16384 ++ data_frame "0023bf000000000003" 9151
unfolding sent_for
streams_share_the_window = refl

both : State
unfolding trace
both = (trace (opening (long 40000) default) two_requests).state

lefts : State → List (Option ℕ)
lefts s = map (λ (st : Stream). st.numbers.body_remaining) s.streams

second_waits : lefts both ≡ None ∷ Some 14465 ∷ []
unfolding lefts both
second_waits = refl

one_octet_more : sent_for both (hex (codes "00000408000000000000000001")) ≡ data_frame "000001000000000003" 1
unfolding sent_for both
one_octet_more = refl
