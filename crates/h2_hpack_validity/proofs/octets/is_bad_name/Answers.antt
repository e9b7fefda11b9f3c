use Rattle.std.proofs.Common.{◌∙◌, sym}
use Rattle.h2_hpack_validity.proofs.OctetTables.{name-rest}
use Rattle.h2_hpack_validity.proofs.octets.is_bad_name.Goals as goal

pub returns-else-is_outside : goal.returns-else-is_outside
returns-else-is_outside c = c.has_outside_of_rest.ensures ∙ name-rest c.args.name.now 0 c.in-len1-up.len_at_least (sym c.is_outside.ensures ∙ c.if-is_outside.false)
