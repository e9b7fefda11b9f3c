use Rattle.std.proofs.Common.{rules}
use Rattle.h2_conn_view.proofs.view.Shown.view_with.Goals as goal

pub returns : goal.returns
returns g c = search rules
