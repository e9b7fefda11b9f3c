use Rattle.std.proofs.Common.{◌∙◌, List, ℕ, sym}
use Rattle.h2_explain.specs.Explains.{IsItemText}
use Rattle.h2_explain.proofs.Steps.{gains-written}
use Rattle.h2_explain.proofs.run_explainer.write_item.Goals as goal

pub returns-in-Ok-clause-gains : goal.returns-in-Ok-clause-gains
returns-in-Ok-clause-gains g c = λ well.
    gains-written (λ (t : List ℕ). IsItemText c.args.form c.args.conn.now.state c.args.item.now t) c.write.result _ _ c.octets.result.now (sym c.write.ensures.flag ∙ well) c.write.ensures.fault (c.write.ensures.octets well) (rw c.octets.ensures c.in-Ok.ensures.text)
