use Rattle.std.proofs.Common.{refl}
use Rattle.h2_conn_view.proofs.show.index_of.Goals as goal

pub returns : goal.returns
returns c = refl
