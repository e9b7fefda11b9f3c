use Rattle.std.proofs.Common.{◌≡◌, ◌++◌, drop}
use Rattle.h2_streams.specs.Patches.{steps_of}
use Rattle.h2_streams.proofs.sharing.patch.Patch.list.Given as goal

abbrev pub invariant-loop-step : goal.invariant-loop-step
invariant-loop-step g l = l.list.items ++ steps_of l.base (drop l.step-index l.self.steps.items) ≡ steps_of l.base l.self.steps.items
