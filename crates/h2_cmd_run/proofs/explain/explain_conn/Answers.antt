use Rattle.std.proofs.Common.{◌∙◌, ap, Err, Result, is_err, subst, sym}
use Rattle.h2_explain.specs.declared.run.Summary.{Summary}
use Rattle.h2_explain.specs.declared.run.ExplainFault.{ExplainFault}
use Rattle.h2_explain.specs.Explains.{IsExplanation, not_written}
use Rattle.h2_cmd_run.specs.ExplainProgram.{ReportsRun, explained_after}
use Rattle.h2_cmd_batch.specs.declared.commands.each.PrintFault.{PrintFault}
use Rattle.h2_cmd_run.proofs.Explained.{end-reports, status-of}
use Rattle.h2_cmd_run.proofs.explain.explain_conn.Goals as goal

pub returns-in-Ok-clause-printed : goal.returns-in-Ok-clause-printed
returns-in-Ok-clause-printed g c = λ well held is.
    let x = c.explain.ensures.gains well held is in
    let explains = subst (λ (r : Result Summary ExplainFault). IsExplanation c.args.form (is_err r) c.args.conn.now.state c.args.octets.now x.0) c.in-Ok.is x.2 in
    (x.0, x.1, status-of c.args.form c.args.conn.now.state c.args.octets.now x.0 c.in-Ok.summary c.is_some.result explains c.in-Ok.ensures.summary c.is_some.ensures)

pub returns-in-Err-clause-printed : goal.returns-in-Err-clause-printed
returns-in-Err-clause-printed g c = λ well held is.
    let x = c.explain.ensures.gains well held is in
    let explains = subst (λ (r : Result Summary ExplainFault). IsExplanation c.args.form (is_err r) c.args.conn.now.state c.args.octets.now x.0) c.in-Err.is x.2 in
    let calm = sym (c.explain.ensures.flag ∙ ap (λ (r : Result Summary ExplainFault). not_written r) c.in-Err.is) ∙ well in (
      x.0,
      x.1,
      subst (λ (e : PrintFault). ReportsRun c.args.form c.args.conn.now.state c.args.octets.now (explained_after c.args.form.json x.0 (Err e))) (sym c.end_of.ensures)
          (end-reports c.args.form c.args.conn.now.state c.args.octets.now x.0 c.in-Err.fault explains calm),
    )
