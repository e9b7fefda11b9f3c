-- What a call on a state results in.
use Rattle.std.specs.Prelude.{◌≡◌, ℕ, ◌<◌, ◌^◌, ◌++◌, IfOk, List, OnErr, OnOk, Result, length}
use Rattle.h2_spec.specs.declared.reactions.Verdict.{Verdict}
use Rattle.h2_spec.specs.Change.{Step}
use Rattle.h2_spec.specs.Effect.{concluded, effect_verdict}
use Rattle.h2_spec.specs.Frames.Frame.{Item, Preface, BadPreface, WholeFrame, Oversize, frames_octets}
use Rattle.h2_spec.specs.Requests.Headers.{FrameEffect}
use Rattle.h2_spec.specs.State.{State}
use Rattle.h2_spec.specs.Trace.{then_sent}
pub use Rattle.h2_spec.specs.Short.{AreShort, IsShortFrame}

-- the state after a step, and its frames after what was sent before
pub record Does (step : Step) (out : List ℕ) (now : State) (out' : List ℕ) : Type 0 where
  pub state : now ≡ step.state
  pub sent : out' ≡ out ++ frames_octets step.sent
  pub short : AreShort step.sent

-- the payload of an item fits a frame
abbrev pub IsShort : Item → Type 0
IsShort Preface = Unit {0}
IsShort BadPreface = Unit {0}
IsShort (WholeFrame h p) = length p < 2 ^ 24
IsShort (Oversize h) = Unit {0}

-- an effect, and then the pending output is sent, unless it ended the connection
abbrev pub stepped : Step → Step
stepped e = then_sent e.state.core.phase e

-- an effect is done, and then the pending output is sent, and the call answers how the item is judged; or, where memory
-- is refused, nothing is done
pub record Settles {E : Type 0} (s : State) (out : List ℕ) (effect : FrameEffect) (result : Result Verdict E) (now : State) (out' : List ℕ) : Type 0 where
  pub ok : OnOk result (Does (stepped (concluded s effect)) out now out')
  pub verdict : IfOk result (λ verdict. verdict ≡ effect_verdict effect)
  pub err : OnErr result ((now ≡ s) × (out' ≡ out))
