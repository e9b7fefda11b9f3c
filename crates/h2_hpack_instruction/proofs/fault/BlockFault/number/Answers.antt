use Rattle.std.proofs.Common.{rules}
use Rattle.h2_hpack_instruction.proofs.fault.BlockFault.number.Goals as goal

pub returns-in-Truncated : goal.returns-in-Truncated
returns-in-Truncated c = search rules
