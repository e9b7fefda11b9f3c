use Rattle.std.proofs.Common.{◌+◌, ◌∙◌, List, ℕ, length, sym}
use Rattle.std.specs.Prelude.{None}
use Rattle.h2_explain.specs.Explains.{IsRestText}
use Rattle.h2_explain.proofs.Steps.{gains-written}
use Rattle.h2_explain.proofs.run_explainer.RunExplainer.write_end.Goals as goal

pub returns-in-Ok-clause-gains : goal.returns-in-Ok-clause-gains
returns-in-Ok-clause-gains g c = λ well.
    let e = c.args.self.now in
    gains-written (λ (t : List ℕ). IsRestText None e.form c.args.conn.now.state e.items e.tally (length e.held.items + e.late) t) c.write.result _ _ c.as_bytes.result.now (sym c.write.ensures.flag ∙ well) c.write.ensures.fault (c.write.ensures.octets well) (rw c.as_bytes.ensures.value c.in-Ok.ensures)
