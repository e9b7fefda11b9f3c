use Rattle.std.proofs.Common.{rules}
use Rattle.h2_spec.proofs.frames.FrameType.of.Goals as goal

pub returns-in-3 : goal.returns-in-3
returns-in-3 c = search rules
