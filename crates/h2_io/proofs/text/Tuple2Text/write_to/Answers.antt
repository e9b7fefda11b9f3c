use Rattle.std.proofs.lemmas.Result.{on_ok_weaker}
use Rattle.h2_io.proofs.Appending.{both}
use Rattle.h2_io.proofs.text.Tuple2Text.write_to.Goals as goal

pub returns-clause-octets : goal.returns-clause-octets
returns-clause-octets g c = on_ok_weaker c.write_to-2.result (both _ _ _ _ _ c.in_ok-write_to.ensures.octets) c.write_to-2.ensures.octets
