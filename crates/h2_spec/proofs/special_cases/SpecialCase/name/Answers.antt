use Rattle.h2_spec.specs.Causes.SpecialCases.{all_special_cases, special_row}
use Rattle.h2_spec.proofs.Columns.{at_place}
use Rattle.h2_spec.proofs.special_cases.SpecialCase.name.Goals as goal

pub returns : goal.returns
returns c = c.text_at.ensures _ (at_place all_special_cases (λ it. (special_row it).name) _ c.place_of.result c.args.self c.names.ensures c.place_of.ensures)
