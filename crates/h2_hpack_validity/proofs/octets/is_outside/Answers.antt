use Rattle.std.proofs.Common.{rules}
use Rattle.h2_hpack_validity.proofs.octets.is_outside.Goals as goal

pub returns-else-octet-le90 : goal.returns-else-octet-le90
returns-else-octet-le90 c = search rules
