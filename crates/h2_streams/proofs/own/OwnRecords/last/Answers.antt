use Rattle.std.proofs.Common.{rules}
use Rattle.h2_streams.proofs.own.OwnRecords.last.Goals as goal

pub returns-clause-value : goal.returns-clause-value
returns-clause-value g c = search rules
