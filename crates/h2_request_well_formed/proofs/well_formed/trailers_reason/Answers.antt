use Rattle.std.proofs.Common.{rules}
use Rattle.h2_request_well_formed.proofs.well_formed.trailers_reason.Goals as goal

pub returns-then-marks-5 : goal.returns-then-marks-5
returns-then-marks-5 c = search rules
