use Rattle.h2_spec_laws.proofs.CuttingLaws.{allowance-cut, nothing-cut}
use Rattle.h2_spec_laws.proofs.grants_laws.allowances_are_cut_into_data.Goals as goal

pub returns-clause-cut : goal.returns-clause-cut
returns-clause-cut c = allowance-cut

pub returns-clause-none : goal.returns-clause-none
returns-clause-none c = nothing-cut
