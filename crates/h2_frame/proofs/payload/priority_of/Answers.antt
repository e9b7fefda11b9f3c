use Rattle.std.proofs.Common.{rules}
use Rattle.h2_frame.proofs.payload.priority_of.Goals as goal

pub returns-then-has : goal.returns-then-has
returns-then-has c = search rules
