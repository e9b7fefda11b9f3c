use Rattle.h2_spec.proofs.Columns.{at_place}
use Rattle.h2_explain_item.specs.Warnings.{all_warnings, warning_name}
use Rattle.h2_explain_item.proofs.diagnosis.warning.Warning.name.Goals as goal

pub returns : goal.returns
returns c = c.text_at.ensures _ (at_place all_warnings warning_name _ c.place_of.result c.args.self c.names.ensures c.place_of.ensures)
