use Rattle.h2_spec_laws.proofs.grants_laws.allowances_are_sent.Goals as goal
use Rattle.h2_spec_laws.proofs.grants.Sharing.{allowances-sent}

pub returns : goal.returns
returns c = allowances-sent
