use Rattle.std.proofs.Common.{refl}
use Rattle.h2_spec.specs.Causes.CauseWords.{row_of, all_causes}
use Rattle.h2_spec.proofs.causes.duties.Goals as goal

pub returns : goal.returns
unfolding row_of all_causes
returns c = refl
