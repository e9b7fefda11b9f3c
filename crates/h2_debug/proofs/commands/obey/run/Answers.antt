use Rattle.h2_debug.proofs.Obeying.{run-on}
use Rattle.h2_debug.proofs.commands.obey.run.Goals as goal

pub returns : goal.returns
returns c = rw c.moved.ensures (run-on _ _ _ c.run.ensures.ok c.run.ensures.more c.run.ensures.fault c.run.ensures.unchanged)
