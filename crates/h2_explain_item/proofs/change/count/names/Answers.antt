use Rattle.std.proofs.Common.{refl}
use Rattle.h2_explain_item.specs.Counts.{all_counts}
use Rattle.h2_explain_item.proofs.change.count.names.Goals as goal

pub returns : goal.returns
unfolding all_counts
returns c = refl
