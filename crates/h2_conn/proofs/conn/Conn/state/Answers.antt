use Rattle.std.proofs.Common.{◌∙◌, sym, ap}
use Rattle.std.proofs.lemmas.Result.{IfOk-weaker}
use Rattle.h2_spec.specs.Texts.View.{view}
use Rattle.h2_conn.specs.Connection.{Connection}
use Rattle.h2_conn.proofs.Runs.{connection-view}
use Rattle.h2_conn.proofs.conn.Conn.state.Goals as goal

pub returns : goal.returns
returns g c =
    IfOk-weaker c.view.result _ _
    (λ shown h. h ∙ c.shown.ensures ∙ sym (connection-view c.self.inside.failed c.self.inside.state c.self.inside.splitter.octets) ∙ ap (λ (d : Connection). view d.state) c.self.view_is)
    c.view.ensures
