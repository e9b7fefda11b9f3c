use Rattle.std.proofs.Common.{rules}
use Rattle.h2_spec.specs.Frames.Payload.{window_part}
use Rattle.h2_frame.proofs.payload.window_of.Goals as goal

pub returns : goal.returns
unfolding window_part
returns c = search rules
