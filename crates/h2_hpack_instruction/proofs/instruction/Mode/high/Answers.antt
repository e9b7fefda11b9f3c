use Rattle.std.proofs.Common.{rules}
use Rattle.h2_hpack_instruction.proofs.instruction.Mode.high.Goals as goal

pub returns-in-NeverIndexed : goal.returns-in-NeverIndexed
returns-in-NeverIndexed c = search rules
