use Rattle.std.proofs.Common.{rules}
use Rattle.h2_conn_rules.proofs.headers.is_full.Goals as goal

pub returns : goal.returns
returns c = search rules
