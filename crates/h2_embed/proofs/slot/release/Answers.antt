use Rattle.std.proofs.Common.{Some, ap, ◌∙◌}
use Rattle.h2_embed.proofs.Feeding.{ready-held}
use Rattle.h2_embed.proofs.slot.release.Goals as goal

pub returns-clause-ready : goal.returns-clause-ready
returns-clause-ready c = ready-held _ _ (ap (λ k. Some k) c.into_box.ensures ∙ c.into_parts.ensures) c.requires.ready
