use Rattle.std.proofs.Common.{refl}
use Rattle.h2_spec.specs.Causes.SpecialCases.{special_row, all_special_cases}
use Rattle.h2_spec.proofs.special_cases.duties.Goals as goal

pub returns : goal.returns
unfolding special_row all_special_cases
returns c = refl
