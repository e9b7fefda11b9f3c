use Rattle.h2_spec.specs.Causes.IgnoredWords.{all_reasons, reason_row}
use Rattle.h2_spec.proofs.Columns.{at_place}
use Rattle.h2_spec.proofs.ignored.Ignored.name.Goals as goal

pub returns : goal.returns
returns c = c.text_at.ensures _ (at_place all_reasons (λ it. (reason_row it).name) _ c.place_of.result c.args.self c.names.ensures c.place_of.ensures)
