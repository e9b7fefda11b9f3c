use Rattle.h2_spec.proofs.InstructionLaws.{whole-takes, whole-stays, too_long-stays}
use Rattle.h2_spec_laws.proofs.block_laws.no_spelling_begins_another.Goals as goal

pub returns-clause-takes : goal.returns-clause-takes
returns-clause-takes c = whole-takes

pub returns-clause-stays : goal.returns-clause-stays
returns-clause-stays c = whole-stays

pub returns-clause-stays_too_long : goal.returns-clause-stays_too_long
returns-clause-stays_too_long c = too_long-stays
