use Rattle.std.proofs.Common.{◌∙◌, sym, ap}
use Rattle.h2_spec.specs.Texts.Show.{show}
use Rattle.h2_spec.specs.Texts.View.{View, view}
use Rattle.h2_conn.specs.Connection.{Connection}
use Rattle.h2_conn.proofs.Runs.{connection-view}
use Rattle.h2_conn.proofs.conn.ConnText.write_to.Goals as goal

pub returns-clause-octets : goal.returns-clause-octets
returns-clause-octets g c =
    rw (← (ap (λ (v : View). show v) (c.shown.ensures ∙ sym (connection-view c.self.inside.failed c.self.inside.state c.self.inside.splitter.octets) ∙ ap (λ (d : Connection). view d.state) c.self.view_is)))
    c.write_to.ensures.octets
