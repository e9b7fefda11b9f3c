use Rattle.std.proofs.Common.{arith, refl}
use Rattle.h2_cmd_run.proofs.bless.print_ended.Goals as goal

pub returns-in-Err-clause-ok : goal.returns-in-Err-clause-ok
returns-in-Err-clause-ok g c = λ zero. absurd (omega (arith, c.print_end.ensures.status refl, zero))
