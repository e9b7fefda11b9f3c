use Rattle.h2_hpack_instruction.proofs.Writing.{written, read_back}
use Rattle.h2_hpack_instruction.proofs.laws.instructions_are_read_back.Goals as goal

pub returns-clause-spelling : goal.returns-clause-spelling
returns-clause-spelling c = written

pub returns-clause-read : goal.returns-clause-read
returns-clause-read c = read_back
