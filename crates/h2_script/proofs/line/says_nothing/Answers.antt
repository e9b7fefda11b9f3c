use Rattle.std.proofs.Common.{rules}
use Rattle.h2_script.proofs.line.says_nothing.Goals as goal

pub returns-else-is_empty : goal.returns-else-is_empty
returns-else-is_empty c = search rules
