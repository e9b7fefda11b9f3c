use Rattle.std.proofs.Common.{rules}
use Rattle.h2_spec.specs.Frames.Payload.{goaway_part}
use Rattle.h2_frame.proofs.payload.goaway_of.Goals as goal

pub returns : goal.returns
unfolding goaway_part
returns c = search rules
