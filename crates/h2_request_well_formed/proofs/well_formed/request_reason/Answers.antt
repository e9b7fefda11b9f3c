use Rattle.std.proofs.Common.{rules}
use Rattle.h2_request_well_formed.proofs.well_formed.request_reason.Goals as goal

pub returns-then-lacks : goal.returns-then-lacks
returns-then-lacks c = search rules
