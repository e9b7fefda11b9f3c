use Rattle.std.proofs.Common.{arith}
use Rattle.h2_script.proofs.line.stream_number.Goals as goal

pub returns-then-reserved : goal.returns-then-reserved
returns-then-reserved c = rw c.if-reserved.true (omega arith)
