use Rattle.std.proofs.Common.{◌∙◌, Option, Some, ap, sym}
use Rattle.h2_spec.specs.State.{State}
use Rattle.h2_embed.proofs.Feeding.{ends-with}
use Rattle.h2_embed.proofs.kept.KeptConnection.end_text.Goals as goal

pub returns-clause-text : goal.returns-clause-text
returns-clause-text c = ends-with (λ v. v.items) _ _ _ _ _ (sym c.take.ensures.value ∙ c.unwrap-owned.ensures) c.end-owned.ensures.ends

pub returns-clause-same : goal.returns-clause-same
returns-clause-same c =
    ap (λ (held : Option State). record c.args.self.now { conn = held }) (ap (λ (s : State). Some s) c.end-owned.ensures.same ∙ sym c.unwrap-owned.ensures ∙ c.take.ensures.value)
