use Rattle.std.proofs.Common.{Result, is_err, subst}
use Rattle.h2_explain.specs.Explaining.{EndsAs}
use Rattle.h2_explain.specs.declared.run.ExplainFault.{ExplainFault}
use Rattle.h2_explain.proofs.run_explainer.RunExplainer.conclude.Goals as goal

pub returns-in-Ok-clause-gains : goal.returns-in-Ok-clause-gains
returns-in-Ok-clause-gains g c = λ well.
    subst (λ (r : Result (Unit {0}) ExplainFault). EndsAs (is_err r) c.args.conn.now c.args.self.now (g.O.Output.written c.args.output.now) (g.O.Output.written c.end.new.output)) c.in-Ok.is
    (c.end.ensures.gains well)

pub returns-in-Err-clause-gains : goal.returns-in-Err-clause-gains
returns-in-Err-clause-gains g c = λ well.
    subst (λ (r : Result (Unit {0}) ExplainFault). EndsAs (is_err r) c.args.conn.now c.args.self.now (g.O.Output.written c.args.output.now) (g.O.Output.written c.end.new.output)) c.in-Err.is
    (c.end.ensures.gains well)
