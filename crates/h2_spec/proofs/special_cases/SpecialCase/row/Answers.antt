use Rattle.h2_spec.specs.Causes.SpecialCases.{all_special_cases, special_row}
use Rattle.h2_spec.specs.Causes.Rules.{duties_of}
use Rattle.h2_spec.proofs.Columns.{at_place, row-whole}
use Rattle.h2_spec.proofs.special_cases.SpecialCase.row.Goals as goal

pub returns : goal.returns
returns c =
    let place = c.place_of-place.result in
    row-whole (record { name = c.text_at.result; section = c.text_at-2.result; client_section = c.text_at-3.result; sentence = c.text_at-4.result; duties = c.duties_at.result }) (special_row c.args.self)
    (c.text_at.ensures _ (at_place all_special_cases (λ it. (special_row it).name) _ place c.args.self c.names.ensures c.place_of-place.ensures))
    (c.text_at-2.ensures _ (at_place all_special_cases (λ it. (special_row it).section) _ place c.args.self c.sections.ensures c.place_of-place.ensures))
    (c.text_at-3.ensures _ (at_place all_special_cases (λ it. (special_row it).client_section) _ place c.args.self c.client_sections.ensures c.place_of-place.ensures))
    (c.text_at-4.ensures _ (at_place all_special_cases (λ it. (special_row it).sentence) _ place c.args.self c.sentences.ensures c.place_of-place.ensures))
    (c.duties_at.ensures _ (at_place all_special_cases (λ it. duties_of (special_row it)) _ place c.args.self c.duties.ensures c.place_of-place.ensures))
