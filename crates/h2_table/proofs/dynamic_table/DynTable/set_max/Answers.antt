use Rattle.std.proofs.Common.{rules}
use Rattle.h2_spec.specs.Hpack.DynamicTable.{resize}
use Rattle.h2_table.proofs.dynamic_table.DynTable.set_max.Goals as goal

pub returns-clause-resized : goal.returns-clause-resized
unfolding resize
returns-clause-resized g c = search rules

pub returns-then-is_over-clause-over_limit : goal.returns-then-is_over-clause-over_limit
returns-then-is_over-clause-over_limit g c = search rules
