use Rattle.std.proofs.Common.{refl}
use Rattle.h2_cmd_batch.proofs.fault.BenchFault.number.Goals as goal

pub returns-in-Read : goal.returns-in-Read
returns-in-Read c = rw c.in-Read.is refl
