use Rattle.h2_spec.specs.Causes.AcceptedWords.{all_accepted, accepted_row}
use Rattle.h2_spec.specs.Causes.Rules.{duties_of}
use Rattle.h2_spec.proofs.Columns.{at_place, row-whole}
use Rattle.h2_spec.proofs.accepted.Accepted.row.Goals as goal

pub returns : goal.returns
returns c =
    let place = c.place_of-place.result in
    row-whole (record { name = c.text_at.result; section = c.text_at-2.result; client_section = c.text_at-3.result; sentence = c.text_at-4.result; duties = c.duties_at.result }) (accepted_row c.args.self)
    (c.text_at.ensures _ (at_place all_accepted (λ it. (accepted_row it).name) _ place c.args.self c.names.ensures c.place_of-place.ensures))
    (c.text_at-2.ensures _ (at_place all_accepted (λ it. (accepted_row it).section) _ place c.args.self c.sections.ensures c.place_of-place.ensures))
    (c.text_at-3.ensures _ (at_place all_accepted (λ it. (accepted_row it).client_section) _ place c.args.self c.client_sections.ensures c.place_of-place.ensures))
    (c.text_at-4.ensures _ (at_place all_accepted (λ it. (accepted_row it).sentence) _ place c.args.self c.sentences.ensures c.place_of-place.ensures))
    (c.duties_at.ensures _ (at_place all_accepted (λ it. duties_of (accepted_row it)) _ place c.args.self c.duties.ensures c.place_of-place.ensures))
