use Rattle.std.proofs.Common.{rules}
use Rattle.h2_spec.specs.Frames.Payload.{data_part}
use Rattle.h2_frame.proofs.payload.data_of.Goals as goal

pub returns-then-frame-fixed : goal.returns-then-frame-fixed
unfolding data_part
returns-then-frame-fixed c = search rules
