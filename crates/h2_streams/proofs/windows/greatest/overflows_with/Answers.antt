use Rattle.std.proofs.Common.{arith}
use Rattle.std.proofs.lemmas.Grind.{common_steps}
use Rattle.h2_streams.specs.Greatest.{overflows_with}
use Rattle.h2_streams.proofs.windows.greatest.overflows_with.Goals as goal

pub returns-in-Some : goal.returns-in-Some
unfolding overflows_with
returns-in-Some c = grind (arith, common_steps)
