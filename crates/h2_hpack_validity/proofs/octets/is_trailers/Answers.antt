use Rattle.std.proofs.Common.{rules}
use Rattle.h2_hpack_validity.proofs.octets.is_trailers.Goals as goal

pub returns : goal.returns
returns c = search rules
