use Rattle.std.proofs.Common.{refl}
use Rattle.h2_script.proofs.fault.kind_number.Goals as goal

pub returns-in-Size : goal.returns-in-Size
returns-in-Size c = rw c.in-Size.is refl
