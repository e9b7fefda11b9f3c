use Rattle.h2_spec.specs.Causes.CauseWords.{all_causes, row_of}
use Rattle.h2_spec.proofs.Columns.{at_place}
use Rattle.h2_spec.proofs.causes.Cause.name.Goals as goal

pub returns : goal.returns
returns c = c.text_at.ensures _ (at_place all_causes (λ it. (row_of it).name) _ c.place_of.result c.args.self c.names.ensures c.place_of.ensures)
