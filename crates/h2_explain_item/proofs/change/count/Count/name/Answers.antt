use Rattle.h2_spec.proofs.Columns.{at_place}
use Rattle.h2_explain_item.specs.Counts.{all_counts, count_name}
use Rattle.h2_explain_item.proofs.change.count.Count.name.Goals as goal

pub returns : goal.returns
returns c = c.text_at.ensures _ (at_place all_counts count_name _ c.place_of.result c.args.self c.names.ensures c.place_of.ensures)
