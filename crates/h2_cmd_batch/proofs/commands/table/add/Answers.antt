use Rattle.std.proofs.Common.{rules}
use Rattle.h2_cmd_batch.proofs.commands.table.add.Goals as goal

pub returns : goal.returns
returns g c = search rules
