use Rattle.h2_debug.proofs.Obeying.{backed}
use Rattle.h2_debug.proofs.commands.obey.back.Goals as goal

pub returns : goal.returns
returns c = rw c.moved.ensures (backed _ _ c.args.count _ c.back.ensures.ok c.back.ensures.more c.back.ensures.fault c.back.ensures.nonzero c.back.ensures.unchanged)
