use Rattle.h2_debug.proofs.KeptLaws.{replay-counted, replay-few}
use Rattle.h2_debug.proofs.laws.few_items_are_run_again.Goals as goal

pub returns : goal.returns
returns c = record { is = replay-counted; few = replay-few }
