use Rattle.h2_spec_laws.proofs.request_laws.values_are_the_first_named.Goals as goal
use Rattle.h2_spec.proofs.RequestLaws.{value_named-is}

pub returns : goal.returns
returns c = value_named-is
