-- What is seen of the items of a run: what was sent, and why items were errors or were ignored (RFC 9113, 5.4).
use Rattle.std.specs.Prelude.{◌≡◌, ℕ, ◌+◌, ◌++◌, List, [], ◌∷◌, Option, Some, None}
use Rattle.h2_spec.specs.Effect.{cause_of}
use Rattle.h2_spec.specs.Frames.Frame.{frames_octets}
use Rattle.h2_spec.specs.Causes.Ignored.{ignored_of}
use Rattle.h2_spec.specs.State.{State}
use Rattle.h2_spec.specs.Frames.Parse.{Stop, One}
use Rattle.h2_spec.specs.Trace.{Event, next_event, trace}
use Rattle.h2_spec.specs.declared.causes.Cause.{Cause}
use Rattle.h2_spec.specs.declared.ignored.Ignored.{Ignored}
use Rattle.h2_debug.specs.Debugging.{Debugging}
use Rattle.h2_debug.specs.Places.{cause_at, ignored_at, sent_octets_at}
use Rattle.h2_cmd_check.specs.declared.case_debugger.CaseDebugger.{CaseDebugger}
use Rattle.h2_cmd_check.specs.declared.case_debugger.CaseDebugger.TheVariants.{Absent, Present, Left}
use Rattle.h2_cmd_check.specs.declared.run.ItemsTaken.{ItemsTaken}

-- how many items there were, the octets that were sent, why the first error was one, and why the last item is an error or
-- is ignored
pub record Sight : Type 0 where
  pub items : ℕ
  pub sent : List ℕ
  pub first : Option Cause
  pub cause : Option Cause
  pub ignored : Option Ignored

-- a cause, or else another
abbrev pub cause_or : Option Cause → Option Cause → Option Cause
cause_or (Some cause) other = Some cause
cause_or None other = other

-- the sight with one more item, which is taken in this state
abbrev pub with_item : State → Sight → Event → Sight
with_item s seen e = record {
  items = seen.items + 1;
  sent = seen.sent ++ frames_octets e.sent;
  first = cause_or seen.first (cause_of s e.item);
  cause = cause_of s e.item;
  ignored = ignored_of s e.item;
}

-- the sight with the items of a run that begins in this state
abbrev pub with_items : State → Sight → List Event → Sight
with_items s seen [] = seen
with_items s seen (e ∷ es) = with_items e.state (with_item s seen e) es

-- no item yet, and these octets were sent
abbrev pub no_item : List ℕ → Sight
no_item sent = record { items = 0; sent = sent; first = None; cause = None; ignored = None }

-- what is seen of the run over octets of a connection in this state, for which these octets were sent first
unfoldable pub sight : State → List ℕ → List ℕ → Sight
unfolding trace
sight s sent octets = with_items s (no_item sent) (trace s octets).events

-- what is seen at the position of a debugger: the item that leads there, what was sent for it, and why it is an error or
-- is ignored
abbrev pub sight_in : Debugging → Sight
sight_in d = record {
  items = d.position;
  sent = sent_octets_at d.run d.position;
  first = cause_at d.run d.position;
  cause = cause_at d.run d.position;
  ignored = ignored_at d.run d.position;
}

-- where here is the position of the debugger, what is seen there
abbrev pub sight_by : CaseDebugger → Sight → Sight
sight_by Absent seen = seen
sight_by (Present d) seen = sight_in d
sight_by (Left d) seen = seen

-- the sight that a value has
abbrev pub seen_by : ItemsTaken → Sight
seen_by seen = record { items = seen.items; sent = seen.sent.items; first = seen.first; cause = seen.cause; ignored = seen.ignored }

-- the next item of the octets was taken: it has that many of them
pub record TakesItem (s : State) (b : List ℕ) (seen : Sight) (t : State) (seen' : Sight) (used : ℕ) : Type 0 where
  pub event : Event
  pub comes : next_event s b ≡ One event t used
  pub state : event.state ≡ t
  pub sight : seen' ≡ with_item s seen event

-- or there is none
pub record TakesNone (s : State) (b : List ℕ) (seen : Sight) (t : State) (seen' : Sight) : Type 0 where
  pub none : next_event s b ≡ Stop
  pub same : t ≡ s
  pub sight : seen' ≡ seen

abbrev pub TakesNext : State → List ℕ → Sight → State → Sight → Option ℕ → Type 0
TakesNext s b seen t seen' None = TakesNone s b seen t seen'
TakesNext s b seen t seen' (Some used) = TakesItem s b seen t seen' used
