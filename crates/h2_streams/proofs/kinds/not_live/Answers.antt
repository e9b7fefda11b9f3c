use Rattle.std.proofs.Common.{rules}
use Rattle.h2_streams.proofs.kinds.not_live.Goals as goal

pub returns : goal.returns
returns c = search rules
