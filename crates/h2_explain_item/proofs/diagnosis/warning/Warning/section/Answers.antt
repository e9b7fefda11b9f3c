use Rattle.h2_spec.proofs.Columns.{at_place}
use Rattle.h2_explain_item.specs.Warnings.{all_warnings, warning_section}
use Rattle.h2_explain_item.proofs.diagnosis.warning.Warning.section.Goals as goal

pub returns : goal.returns
returns c = c.text_at.ensures _ (at_place all_warnings warning_section _ c.place_of.result c.args.self c.sections.ensures c.place_of.ensures)
