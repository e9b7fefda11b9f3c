use Rattle.std.proofs.Common.{refl}
use Rattle.h2_spec.specs.Causes.IgnoredWords.{reason_row, all_reasons}
use Rattle.h2_spec.proofs.ignored.duties.Goals as goal

pub returns : goal.returns
unfolding reason_row all_reasons
returns c = refl
