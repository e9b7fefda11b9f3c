use Rattle.std.proofs.Common.{◌∙◌}
use Rattle.h2_hpack_validity.proofs.KnownNames.{length-first}
use Rattle.h2_hpack_validity.proofs.mark.KnownName.of.Goals as goal

pub returns : goal.returns
returns c = c.by_length.ensures ∙ length-first c.args.name.now
