use Rattle.std.proofs.Common.{◌++◌, ℕ, List, Option, ap, subst, sym}
use Rattle.h2_cmd_inject.specs.Founds.{AreSeen, IsSeen}
use Rattle.h2_conn.specs.Connection.{Connection}
use Rattle.h2_explain.specs.declared.run.Form.{Form}
use Rattle.h2_spec.specs.State.{State, opening}
use Rattle.h2_cmd_inject.proofs.serving.show_if.Goals as goal

pub returns-clause-clients : goal.returns-clause-clients
returns-clause-clients g c =
    let octets : List ℕ = c.args.course.now.octets ++ c.args.course.now.inbox in
    let new : State = opening c.args.common.book.now c.args.common.config in
    let same = ap (λ (k : Connection). k.state) c.in_ok-conn.ensures.new in
    let seen = subst (λ (s : State). IsSeen c.in-Some.form c.args.steps.now c.args.number s octets c.in_ok-summary.summary) same c.in_ok-summary.ensures.summary in
    subst (λ (o : Option Form). AreSeen o c.args.steps.now c.args.number new octets c.args.clients c.with.result) (sym c.in-Some.is) (c.in_ok-summary.summary, seen, c.with.ensures)
