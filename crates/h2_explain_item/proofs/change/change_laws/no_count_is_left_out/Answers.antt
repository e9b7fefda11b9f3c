use Rattle.h2_explain_item.specs.Changes.{connection_table}
use Rattle.h2_explain_item.proofs.ChangeLaws.{all_same, same_counts, same_table}
use Rattle.h2_explain_item.proofs.change.change_laws.no_count_is_left_out.Goals as goal

pub returns-clause-counts : goal.returns-clause-counts
returns-clause-counts c = λ before after h. same_counts before after (all_same (connection_table before after) h)

pub returns-clause-table : goal.returns-clause-table
returns-clause-table c = λ before after h. same_table before after (all_same (connection_table before after) h)
