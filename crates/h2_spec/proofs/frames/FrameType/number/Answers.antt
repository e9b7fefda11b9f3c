use Rattle.std.proofs.Common.{rules}
use Rattle.h2_spec.proofs.frames.FrameType.number.Goals as goal

pub returns-in-Continuation : goal.returns-in-Continuation
returns-in-Continuation c = search rules
