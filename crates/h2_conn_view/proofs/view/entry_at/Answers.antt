use Rattle.h2_conn_view.proofs.Views.{from-first}
use Rattle.h2_conn_view.proofs.view.entry_at.Goals as goal

pub returns : goal.returns
returns g c = from-first c.args.place c.args.table.now.table.entries _ c.get.ensures
