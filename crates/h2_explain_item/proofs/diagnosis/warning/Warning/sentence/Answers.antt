use Rattle.h2_spec.proofs.Columns.{at_place}
use Rattle.h2_explain_item.specs.Warnings.{all_warnings, warning_sentence}
use Rattle.h2_explain_item.proofs.diagnosis.warning.Warning.sentence.Goals as goal

pub returns : goal.returns
returns c = c.text_at.ensures _ (at_place all_warnings warning_sentence _ c.place_of.result c.args.self c.sentences.ensures c.place_of.ensures)
