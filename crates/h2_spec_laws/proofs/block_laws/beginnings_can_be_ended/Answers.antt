use Rattle.h2_spec_laws.proofs.BeginningLaws.{instr-ends, begins}
use Rattle.h2_spec.proofs.InstructionLaws.{too_long-stays}
use Rattle.h2_spec_laws.proofs.block_laws.beginnings_can_be_ended.Goals as goal

pub returns-clause-ended : goal.returns-clause-ended
returns-clause-ended c = λ octets e. let x = instr-ends octets e in record { more = x.more; shape = x.one; whole = x.whole }

pub returns-clause-begun : goal.returns-clause-begun
returns-clause-begun c = begins

pub returns-clause-too_long : goal.returns-clause-too_long
returns-clause-too_long c = too_long-stays
