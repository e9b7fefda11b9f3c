use Rattle.std.proofs.Common.{rules}
use Rattle.h2_table.proofs.entry.TableEntry.name.Goals as goal

pub returns : goal.returns
returns g c = search rules
