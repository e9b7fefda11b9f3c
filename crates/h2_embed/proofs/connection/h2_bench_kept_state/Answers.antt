use Rattle.std.proofs.Common.{◌∙◌, Some, ap}
use Rattle.h2_embed.specs.Kept.{IsState}
use Rattle.h2_embed.specs.declared.kept.KeptConnection.{KeptConnection}
use Rattle.h2_embed.proofs.Feeding.{says-held}
use Rattle.h2_embed.proofs.connection.h2_bench_kept_state.Goals as goal

pub returns-in-Ok-clause-said : goal.returns-in-Ok-clause-said
returns-in-Ok-clause-said c =
    says-held IsState _ _ _ _ _ _ _ _ _ c.in-Some.ensures.kept c.deref_mut.ensures.value (c.put.ensures ∙ ap (λ (k : KeptConnection). Some k) (c.state_text-text.ensures.same ∙ c.deref_mut.ensures.value))
    c.in-Ok.ensures.text c.as_bytes.ensures.value c.put_text.ensures.put
