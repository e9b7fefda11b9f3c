use Rattle.std.proofs.Common.{rules}
use Rattle.h2_request_well_formed.proofs.well_formed.lacks.Goals as goal

pub returns-else-is_some : goal.returns-else-is_some
returns-else-is_some c = search rules
