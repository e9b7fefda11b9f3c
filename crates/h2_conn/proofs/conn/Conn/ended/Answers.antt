use Rattle.std.proofs.Common.{rules}
use Rattle.h2_conn.proofs.conn.Conn.ended.Goals as goal

pub returns-in-Ended : goal.returns-in-Ended
returns-in-Ended g c = search rules
