use Rattle.h2_debug.proofs.Obeying.{stepped}
use Rattle.h2_debug.proofs.commands.obey.step.Goals as goal

pub returns : goal.returns
returns c = rw c.moved.ensures (stepped _ _ c.args.count _ c.step.ensures.ok c.step.ensures.more c.step.ensures.fault c.step.ensures.nonzero c.step.ensures.unchanged)
