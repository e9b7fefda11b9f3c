use Rattle.std.proofs.Common.{◌∙◌}
use Rattle.h2_cmd_dialogue.proofs.FindingLaws.{missed-next}
use Rattle.h2_cmd_dialogue.proofs.watched.Watched.missed_sends.Goals as goal

pub loop-line-preserved : goal.loop-line-preserved
loop-line-preserved c =
    missed-next c.args.self.now c.args.number c.args.lines.now c.loop-line.line-index c.line-item.result c.loop-line.missed c.missed_by-missed.result c.loop-line-test.true c.line-item.is c.missed_by-missed.ensures
    ∙ c.loop-line.invariant
