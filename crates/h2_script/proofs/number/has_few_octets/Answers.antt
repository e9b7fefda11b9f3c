use Rattle.std.proofs.Common.{rules}
use Rattle.h2_script.proofs.number.has_few_octets.Goals as goal

pub returns-then-not-is_empty : goal.returns-then-not-is_empty
returns-then-not-is_empty c = search rules
