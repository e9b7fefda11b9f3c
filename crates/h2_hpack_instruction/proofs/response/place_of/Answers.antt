use Rattle.std.proofs.Common.{rules}
use Rattle.h2_hpack_instruction.proofs.response.place_of.Goals as goal

pub returns-in-404 : goal.returns-in-404
returns-in-404 c = search rules
