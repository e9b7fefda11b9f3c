use Rattle.h2_fields.proofs.Counting.{bounded}
use Rattle.h2_fields.proofs.laws.ticks_are_bounded.Goals as goal

pub returns : goal.returns
returns c = bounded
