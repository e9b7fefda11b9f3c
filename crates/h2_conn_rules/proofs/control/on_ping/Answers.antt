use Rattle.std.proofs.Common.{rules}
use Rattle.h2_conn_rules.proofs.control.on_ping.Goals as goal

pub returns-clause-rule : goal.returns-clause-rule
returns-clause-rule c = search rules
