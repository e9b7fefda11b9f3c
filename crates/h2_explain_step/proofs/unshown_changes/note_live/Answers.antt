use Rattle.std.proofs.Common.{◌∙◌}
use Rattle.h2_explain_step.proofs.Accounts.{keeps_blocks}
use Rattle.h2_explain_step.proofs.unshown_changes.note_live.Goals as goal

pub loop-stream-preserved : goal.loop-stream-preserved
loop-stream-preserved g c =
    let kept = keeps_blocks c.loop-stream.notes c.see.new.self c.args.number c.args.number c.stream-now.result c.in_ok-see.ensures.noted c.see.ensures.not_noted in
    (kept.0 ∙ c.loop-stream.invariant.0, kept.1 ∙ c.loop-stream.invariant.1)
