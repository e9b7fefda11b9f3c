use Rattle.h2_explain_step.specs.Account.{KeepsBlocks}
use Rattle.h2_explain_step.proofs.unshown_changes.note_live.Given as goal

abbrev pub invariant-loop-stream : goal.invariant-loop-stream
invariant-loop-stream g l = KeepsBlocks l.fn.notes l.notes
