use Rattle.std.proofs.Common.{rules}
use Rattle.h2_streams.proofs.records.Streams.set.Goals as goal

pub returns : goal.returns
returns g c = search rules
