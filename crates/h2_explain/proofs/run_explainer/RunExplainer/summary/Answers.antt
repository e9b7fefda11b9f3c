use Rattle.std.proofs.Common.{ap, arith}
use Rattle.h2_explain.specs.declared.run.Summary.{Summary}
use Rattle.h2_explain.proofs.Steps.{end-summed}
use Rattle.h2_explain.proofs.run_explainer.RunExplainer.summary.Goals as goal

pub returns : goal.returns
returns g c =
    let is = c.summary_since.ensures in
    end-summed c.args.conn.now c.args.self.now c.summary_since.result _ (ap (λ (s : Summary). s.items) is) (ap (λ (s : Summary). s.ended) is) (omega (arith, c.len.ensures)) (ap (λ (s : Summary). s.verdict) is)
