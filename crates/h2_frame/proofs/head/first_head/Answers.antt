use Rattle.std.proofs.Common.{rules}
use Rattle.h2_spec.specs.Frames.Frame.{head_of}
use Rattle.h2_frame.proofs.head.first_head.Goals as goal

pub returns : goal.returns
unfolding head_of
returns c = search rules
