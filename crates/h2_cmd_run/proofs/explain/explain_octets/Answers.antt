use Rattle.std.proofs.Common.{ap, subst}
use Rattle.h2_spec.specs.State.{State}
use Rattle.h2_conn.specs.Connection.{Connection}
use Rattle.h2_cmd_run.specs.ExplainProgram.{ReportsRun, explained_after}
use Rattle.h2_cmd_run.proofs.explain.explain_octets.Goals as goal

pub returns-in-Ok-clause-printed : goal.returns-in-Ok-clause-printed
returns-in-Ok-clause-printed g c = λ well held is.
    let x = c.explain_conn.ensures.printed well held is in
    (x.0, x.1, subst (λ (s : State). ReportsRun c.args.form s c.args.octets.now (explained_after c.args.form.json x.0 c.explain_conn.result)) (ap (λ (d : Connection). d.state) c.in-Ok.ensures.opened) x.2)
