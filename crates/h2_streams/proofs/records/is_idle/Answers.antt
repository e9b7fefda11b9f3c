use Rattle.std.proofs.Common.{rules}
use Rattle.h2_streams.proofs.records.is_idle.Goals as goal

pub returns-else-id-eq0 : goal.returns-else-id-eq0
returns-else-id-eq0 c = search rules
