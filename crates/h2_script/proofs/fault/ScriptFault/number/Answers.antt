use Rattle.std.proofs.Common.{refl}
use Rattle.h2_script.proofs.fault.ScriptFault.number.Goals as goal

pub returns-in-Syntax : goal.returns-in-Syntax
returns-in-Syntax c = rw c.in-Syntax.is refl
