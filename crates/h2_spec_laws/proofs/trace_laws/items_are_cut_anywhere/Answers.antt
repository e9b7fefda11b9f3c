use Rattle.h2_spec_laws.proofs.trace_laws.items_are_cut_anywhere.Goals as goal
use Rattle.h2_spec.proofs.TraceLaws.{next-uses, next-stays}

pub returns-clause-within : goal.returns-clause-within
returns-clause-within c = next-uses

pub returns-clause-kept : goal.returns-clause-kept
returns-clause-kept c = next-stays
