use Rattle.std.proofs.Common.{rules}
use Rattle.h2_prim.proofs.fault.HuffFault.number.Goals as goal

pub returns-in-Padding : goal.returns-in-Padding
returns-in-Padding c = search rules
