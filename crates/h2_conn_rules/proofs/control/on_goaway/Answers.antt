use Rattle.std.proofs.Common.{ap}
use Rattle.h2_spec.specs.declared.reactions.Reaction.TheVariants.{Continues}
use Rattle.h2_conn_rules.proofs.control.on_goaway.Goals as goal

pub returns-clause-rule : goal.returns-clause-rule
returns-clause-rule c = ap Continues c.only_counts.ensures
