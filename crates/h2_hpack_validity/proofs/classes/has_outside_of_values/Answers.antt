use Rattle.std.proofs.Common.{◌∙◌}
use Rattle.h2_hpack_validity.proofs.OctetTables.{low-any}
use Rattle.h2_hpack_validity.proofs.classes.has_outside_of_values.Goals as goal

pub returns : goal.returns
returns c = c.has_low_outside.ensures ∙ low-any c.args.octets.now
