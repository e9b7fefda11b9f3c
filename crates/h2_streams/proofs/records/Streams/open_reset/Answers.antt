use Rattle.std.proofs.Common.{rules}
use Rattle.h2_streams.proofs.records.Streams.open_reset.Goals as goal

pub returns-clause-ok : goal.returns-clause-ok
returns-clause-ok g c = search rules
