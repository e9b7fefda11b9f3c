-- Taking the first item of octets in hand (RFC 9113, 3.4).
use Rattle.std.specs.Prelude.{◌≡◌, ℕ, ◌++◌, List, Option, Some, None}
use Rattle.h2_spec.specs.Frames.Frame.{frames_octets}
use Rattle.h2_spec.specs.Frames.Parse.{Stop, One}
use Rattle.h2_spec.specs.State.{State}
use Rattle.h2_spec.specs.Trace.{Event, next_event}
use Rattle.h2_spec.specs.Does.{AreShort}

-- the first item of the octets leads to the other state and takes that many of them, and what is sent goes to the end
-- of out
pub record TakesFirst (s : State) (b out : List ℕ) (t : State) (out' : List ℕ) (used : ℕ) : Type 0 where
  pub event : Event
  pub comes : next_event s b ≡ One event t used
  pub sent : out' ≡ out ++ frames_octets event.sent
  pub short : AreShort event.sent

-- the octets begin with no whole item: nothing is done
pub record HasNone (s : State) (b out : List ℕ) (t : State) (out' : List ℕ) : Type 0 where
  pub none : next_event s b ≡ Stop
  pub same : t ≡ s
  pub quiet : out' ≡ out

abbrev pub TakesIfAny : State → List ℕ → List ℕ → State → List ℕ → Option ℕ → Type 0
TakesIfAny s b out t out' None = HasNone s b out t out'
TakesIfAny s b out t out' (Some used) = TakesFirst s b out t out' used
