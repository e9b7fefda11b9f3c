use Rattle.std.proofs.Common.{rules}
use Rattle.h2_spec.specs.Checks.{interrupts}
use Rattle.h2_conn_rules.proofs.checks.interrupts.Goals as goal

pub returns-after-head-eq-CONTINUATION : goal.returns-after-head-eq-CONTINUATION
unfolding interrupts
returns-after-head-eq-CONTINUATION c = search rules
