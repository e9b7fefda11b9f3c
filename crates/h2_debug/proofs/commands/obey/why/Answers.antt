use Rattle.h2_debug.proofs.Obeying.{told}
use Rattle.h2_debug.proofs.commands.obey.why.Goals as goal

pub returns : goal.returns
returns c = rw c.explained.ensures (told _ _ _ c.special_case.ensures.case c.special_case.ensures.memory c.special_case.ensures.fault c.special_case.ensures.same)
