use Rattle.std.proofs.Common.{◌∙◌, sym}
use Rattle.h2_debug.proofs.KeptLaws.{farthest-none, farthest-some}
use Rattle.h2_debug.proofs.debugger.arrive.Goals as goal

-- the place that is left was the farthest one
pub returns-then-is_none-clause-behind : goal.returns-then-is_none-clause-behind
returns-then-is_none-clause-behind g c = λ before. c.replace-left.ensures.value ∙ sym (farthest-none c.args.farthest.now c.args.present.now c.if-is_none.ensures)

-- the farthest place stays
pub returns-else-is_none-clause-behind : goal.returns-else-is_none-clause-behind
returns-else-is_none-clause-behind g c = λ before. farthest-some c.args.farthest.now c.args.place c.args.present.now c.if-is_none.ensures
