use Rattle.h2_spec_laws.proofs.grants_laws.allowances_are_least.Goals as goal
use Rattle.h2_spec_laws.proofs.grants.Sharing.{allowance-least}

pub returns : goal.returns
returns c = allowance-least
