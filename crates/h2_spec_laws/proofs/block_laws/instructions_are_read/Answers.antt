use Rattle.h2_spec.proofs.InstructionTexts.{spelling-read, read-spelling}
use Rattle.h2_spec_laws.proofs.block_laws.instructions_are_read.Goals as goal

pub returns-clause-read : goal.returns-clause-read
returns-clause-read c = spelling-read

pub returns-clause-spelled : goal.returns-clause-spelled
returns-clause-spelled c = read-spelling
