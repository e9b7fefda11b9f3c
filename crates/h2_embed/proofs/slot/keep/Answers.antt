use Rattle.std.proofs.Common.{Some, ap, ◌∙◌}
use Rattle.h2_embed.proofs.Feeding.{holds-ready}
use Rattle.h2_embed.proofs.slot.keep.Goals as goal

pub returns-clause-ready : goal.returns-clause-ready
returns-clause-ready c = holds-ready _ _ (c.of_parts.ensures ∙ ap (λ k. Some k) c.of.ensures) c.requires.ready
