use Rattle.std.proofs.Common.{rules}
use Rattle.h2_streams.proofs.kinds.peer_closed.Goals as goal

pub returns-in-HalfLocal : goal.returns-in-HalfLocal
returns-in-HalfLocal c = search rules
