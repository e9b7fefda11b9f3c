use Rattle.std.proofs.Common.{◌≡◌, List, refl}
use Rattle.h2_spec.specs.Requests.Answer.{Entry}
use Rattle.h2_cmd_run.proofs.Shown.{ends-shown}
use Rattle.h2_cmd_run.proofs.server.explain.Goals as goal

pub returns-clause-shown : goal.returns-clause-shown
returns-clause-shown g c =
    ends-shown (λ (entries : List Entry). entries ≡ c.args.book.now) c.form_of-form.result _ c.args.plan.now.watch.strict c.args.book.now c.args.plan.now.config
    c.args.port c.args.plan.now.count (g.O.Output.written c.args.output.now) (g.O.Output.written c.listen_and_explain-ended.new.output)
    (g.O.Output.written c.explained_status.new.output) _ _ c.explained_status.result c.listen_and_explain-ended.result c.form_of-form.ensures refl refl
    c.listen_and_explain-ended.ensures.shown c.explained_status.ensures.ok c.explained_status.ensures.err
    c.listen_and_explain-ended.ensures.grew c.explained_status.ensures.line
