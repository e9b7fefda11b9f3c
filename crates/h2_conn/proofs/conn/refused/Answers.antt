use Rattle.std.proofs.Common.{refl}
use Rattle.h2_conn.proofs.conn.refused.Goals as goal

pub returns-clause-failed : goal.returns-clause-failed
returns-clause-failed c = refl
