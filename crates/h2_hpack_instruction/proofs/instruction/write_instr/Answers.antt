use Rattle.std.proofs.Common.{rules}
use Rattle.h2_hpack_instruction.proofs.instruction.write_instr.Goals as goal

pub returns-in-Err-clause-err : goal.returns-in-Err-clause-err
returns-in-Err-clause-err g c = search rules
