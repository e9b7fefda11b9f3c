use Rattle.std.proofs.Common.{rules}
use Rattle.h2_conn.proofs.fault.ConnFault.number.Goals as goal

pub returns-in-Failed : goal.returns-in-Failed
returns-in-Failed c = search rules
