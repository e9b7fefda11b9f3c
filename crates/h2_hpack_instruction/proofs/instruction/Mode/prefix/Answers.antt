use Rattle.std.proofs.Common.{rules}
use Rattle.h2_hpack_instruction.proofs.instruction.Mode.prefix.Goals as goal

pub returns-in-IncrementalIndexing : goal.returns-in-IncrementalIndexing
returns-in-IncrementalIndexing c = search rules
