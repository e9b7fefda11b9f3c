-- A whole run: the items of octets one by one, each with what it does and what is sent (RFC 9113, 3.4 to 6).
use Rattle.std.specs.Prelude.{◌≡◌, ℕ, ◌<◌, ◌≤◌, true, false, List, [], ◌++◌, length, flat_map}
use Rattle.h2_spec.specs.Frames.Parse.{Front, Stop, One, parse_all}
use Rattle.h2_spec.specs.Frames.Frame.{Frame, Item, Next, NoItem, Got, next, frames_octets, frame_octets}
use Rattle.h2_spec.specs.State.{State}
use Rattle.h2_spec.specs.declared.connection.Phase.{Phase}
use Rattle.h2_spec.specs.declared.connection.Phase.TheVariants.{Preface, Settings, Running, Ended}
use Rattle.h2_spec.specs.Change.{Step}
use Rattle.h2_spec.specs.Effect.{effect}
use Rattle.h2_spec.specs.SendPending.{send_pending}

-- one item, the state after it, and the frames sent for it
pub record Event : Type 0 where
  pub item : Item
  pub state : State
  pub sent : List Frame

-- the items of a run in order, the state after them, and the octets that are left
pub record Run : Type 0 where
  pub events : List Event
  pub state : State
  pub rest : List ℕ

-- what the connection does with one item: its effect, and then the pending output is sent
abbrev pub behind : Step → Step → Step
behind e p = record { state = p.state; sent = e.sent ++ p.sent }

-- the pending output is sent after an item, unless it ended the connection
abbrev pub then_sent : Phase → Step → Step
then_sent (Ended code) e = e
then_sent Preface e = behind e (send_pending e.state)
then_sent Settings e = behind e (send_pending e.state)
then_sent Running e = behind e (send_pending e.state)

-- what one item results in
unfoldable pub step : State → Item → Step
unfolding effect send_pending
step s item = let e = effect s item in then_sent e.state.core.phase e

-- the next item in a phase, with the limit of a frame's length: none after the end
abbrev pub next_in : Phase → ℕ → List ℕ → Next
next_in Preface limit b = next true limit b
next_in Settings limit b = next false limit b
next_in Running limit b = next false limit b
next_in (Ended code) limit b = NoItem

-- the next item of a connection
unfoldable pub next_item : State → List ℕ → Next
unfolding next
next_item s b = next_in s.core.phase s.core.own.frame b

-- the next event of a connection, if there is an item
abbrev pub event_on : State → Next → Front State Event
event_on s NoItem = Stop
event_on s (Got item used) = let st = step s item in One (record { item = item; state = st.state; sent = st.sent }) st.state used

-- the next item of a connection, and what it results in
unfoldable pub next_event : State → List ℕ → Front State Event
unfolding next_item step
next_event s b = event_on s (next_item s b)

-- the octets that are left where there is no item: none after the end
abbrev pub left_by : Phase → List ℕ → List ℕ
left_by (Ended code) b = []
left_by Preface b = b
left_by Settings b = b
left_by Running b = b

-- the run of a connection over octets
unfoldable pub trace : State → List ℕ → Run
unfolding parse_all next_event
trace s b = let t = parse_all next_event s b in record { events = t.elements; state = t.state; rest = left_by t.state.core.phase t.rest }

-- all that is sent, as octets
unfoldable pub sent_octets : List Event → List ℕ
unfolding frame_octets
sent_octets es = flat_map (λ e. frames_octets e.sent) es

-- a run, carried on with more octets after those that were left
unfoldable pub carried_on : Run → List ℕ → Run
carried_on r more = let t = trace r.state (r.rest ++ more) in record { events = r.events ++ t.events; state = t.state; rest = t.rest }

-- the first answer, where it is an item
abbrev pub IsKept : Next → Next → Type 0
IsKept NoItem later = Unit {0}
IsKept (Got item used) later = later ≡ Got item used

-- an item takes at least one octet, and no more than there are
abbrev pub IsWithin : List ℕ → Next → Type 0
IsWithin b NoItem = Unit {0}
IsWithin b (Got item used) = (0 < used) × (used ≤ length b)
