use Rattle.std.proofs.Common.{arith}
use Rattle.h2_frame.proofs.Pairs.{found}
use Rattle.h2_frame.proofs.payload.SettingsPart.pair_at.Goals as goal

pub returns : goal.returns
returns c = grind (arith, found)
