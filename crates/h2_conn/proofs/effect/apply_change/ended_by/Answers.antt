use Rattle.std.proofs.Common.{refl}
use Rattle.h2_conn.proofs.effect.apply_change.ended_by.Goals as goal

pub returns : goal.returns
returns c = refl
