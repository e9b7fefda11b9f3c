use Rattle.std.proofs.Common.{refl}
use Rattle.h2_explain_item.specs.Warnings.{all_warnings}
use Rattle.h2_explain_item.proofs.diagnosis.warning.all_warnings.Goals as goal

pub returns : goal.returns
unfolding all_warnings
returns c = refl
