use Rattle.std.proofs.Common.{rules}
use Rattle.h2_table.proofs.fault.TableFault.number.Goals as goal

pub returns : goal.returns
returns c = search rules
