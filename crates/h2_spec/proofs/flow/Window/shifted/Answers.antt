use Rattle.std.proofs.Common.{arith}
use Rattle.std.proofs.lemmas.Int.{ints}
use Rattle.h2_spec.proofs.flow.Window.shifted.Goals as goal

pub returns : goal.returns
returns c = omega (arith, ints)
