use Rattle.std.proofs.Common.{◌∙◌, Option, Some, ap, string_bytes, sym}
use Rattle.h2_spec.specs.State.{State}
use Rattle.h2_embed.proofs.Feeding.{shows}
use Rattle.h2_embed.proofs.kept.KeptConnection.state_text.Goals as goal

pub returns-clause-text : goal.returns-clause-text
returns-clause-text c = shows string_bytes _ _ _ (sym c.take.ensures.value ∙ c.unwrap-owned.ensures) c.show-owned.ensures.shown

pub returns-clause-same : goal.returns-clause-same
returns-clause-same c =
    ap (λ (held : Option State). record c.args.self.now { conn = held }) (ap (λ (s : State). Some s) c.show-owned.ensures.same ∙ sym c.unwrap-owned.ensures ∙ c.take.ensures.value)
