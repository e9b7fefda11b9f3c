use Rattle.std.proofs.Common.{refl}
use Rattle.h2_spec.specs.Hpack.StaticTable.{static_entries}
use Rattle.h2_table.proofs.static_table.entries.Goals as goal

pub returns : goal.returns
unfolding static_entries
returns c = refl
