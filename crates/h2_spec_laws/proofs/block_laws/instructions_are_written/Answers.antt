use Rattle.h2_spec.proofs.InstructionWriting.{shape-written, instruction-written}
use Rattle.h2_spec_laws.proofs.block_laws.instructions_are_written.Goals as goal

pub returns-clause-whole : goal.returns-clause-whole
returns-clause-whole c = shape-written

pub returns-clause-spelling : goal.returns-clause-spelling
returns-clause-spelling c = instruction-written
