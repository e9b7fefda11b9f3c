use Rattle.std.proofs.Common.{rules}
use Rattle.h2_streams.proofs.windows.greatest.larger_of.Goals as goal

pub returns-then-value : goal.returns-then-value
returns-then-value c = search rules

pub returns-else-value : goal.returns-else-value
returns-else-value c = search rules
