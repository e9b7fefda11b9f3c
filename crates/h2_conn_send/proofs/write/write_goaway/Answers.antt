use Rattle.std.proofs.Common.{rules}
use Rattle.h2_conn_send.proofs.write.write_goaway.Goals as goal

pub returns : goal.returns
returns g c = record { ok = search rules; err = search rules }
