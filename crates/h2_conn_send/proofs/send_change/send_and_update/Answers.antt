use Rattle.std.proofs.Common.{rules}
use Rattle.h2_conn_send.proofs.send_change.send_and_update.Goals as goal

pub returns-in-Err-clause-err : goal.returns-in-Err-clause-err
returns-in-Err-clause-err g c = (c.in-Err.ensures.err, search rules)
