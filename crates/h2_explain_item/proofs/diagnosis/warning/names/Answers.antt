use Rattle.std.proofs.Common.{refl}
use Rattle.h2_explain_item.specs.Warnings.{all_warnings, warning_row}
use Rattle.h2_explain_item.proofs.diagnosis.warning.names.Goals as goal

pub returns : goal.returns
unfolding all_warnings warning_row
returns c = refl
