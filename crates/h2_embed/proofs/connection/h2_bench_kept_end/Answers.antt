use Rattle.std.proofs.Common.{◌∙◌, Some, ap}
use Rattle.h2_embed.specs.Kept.{IsEnd}
use Rattle.h2_embed.specs.declared.kept.KeptConnection.{KeptConnection}
use Rattle.h2_embed.proofs.Feeding.{says-held}
use Rattle.h2_embed.proofs.connection.h2_bench_kept_end.Goals as goal

pub returns-in-Ok-clause-said : goal.returns-in-Ok-clause-said
returns-in-Ok-clause-said c =
    says-held IsEnd _ _ _ _ _ _ _ _ _ c.in-Some.ensures.kept c.deref_mut.ensures.value (c.put.ensures ∙ ap (λ (k : KeptConnection). Some k) (c.end_text-text.ensures.same ∙ c.deref_mut.ensures.value))
    c.in-Ok.ensures.text c.as_slice.ensures.value c.put_text.ensures.put
