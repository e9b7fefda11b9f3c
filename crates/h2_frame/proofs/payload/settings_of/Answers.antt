use Rattle.std.proofs.Common.{rules}
use Rattle.h2_spec.specs.Frames.Payload.{settings_part}
use Rattle.h2_frame.proofs.payload.settings_of.Goals as goal

pub returns : goal.returns
unfolding settings_part
returns c = search rules
