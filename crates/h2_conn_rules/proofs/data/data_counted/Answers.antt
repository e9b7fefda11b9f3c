use Rattle.std.proofs.Common.{rules}
use Rattle.h2_spec.specs.Data.{data_counted}
use Rattle.h2_conn_rules.proofs.data.data_counted.Goals as goal

pub returns-clause-rule : goal.returns-clause-rule
unfolding data_counted
returns-clause-rule c = search rules
