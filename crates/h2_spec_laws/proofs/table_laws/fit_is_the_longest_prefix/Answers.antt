use Rattle.h2_spec.proofs.TableLaws.{fit-is_longest, longest-is_fit}
use Rattle.h2_spec_laws.proofs.table_laws.fit_is_the_longest_prefix.Goals as goal

pub returns-clause-is : goal.returns-clause-is
returns-clause-is c = fit-is_longest

pub returns-clause-only : goal.returns-clause-only
returns-clause-only c = longest-is_fit
