use Rattle.std.proofs.Common.{refl}
use Rattle.h2_request_well_formed.proofs.reason.Reason.number.Goals as goal

pub returns-in-BadTe : goal.returns-in-BadTe
returns-in-BadTe c = rw c.in-BadTe.is refl
