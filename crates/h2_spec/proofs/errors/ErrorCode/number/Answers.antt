use Rattle.std.proofs.Common.{rules}
use Rattle.h2_spec.proofs.errors.ErrorCode.number.Goals as goal

pub returns-in-EnhanceYourCalm : goal.returns-in-EnhanceYourCalm
returns-in-EnhanceYourCalm c = search rules
