use Rattle.std.proofs.Common.{rules}
use Rattle.h2_frame.proofs.payload.unpadded.Goals as goal

pub returns : goal.returns
returns c = search rules
