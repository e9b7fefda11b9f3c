use Rattle.h2_spec_laws.proofs.grants_laws.records_are_in_order.Goals as goal
use Rattle.h2_spec_laws.proofs.grants.Law.{order-kept}

pub returns : goal.returns
returns c = order-kept
