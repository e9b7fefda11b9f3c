use Rattle.h2_spec_laws.proofs.grants_laws.grants_are_kept.Goals as goal
use Rattle.h2_spec_laws.proofs.grants.Law.{grants-kept}

pub returns : goal.returns
returns c = grants-kept
