use Rattle.std.proofs.Common.{rules}
use Rattle.h2_spec.specs.Frames.Payload.{reset_part}
use Rattle.h2_frame.proofs.payload.reset_of.Goals as goal

pub returns : goal.returns
unfolding reset_part
returns c = search rules
