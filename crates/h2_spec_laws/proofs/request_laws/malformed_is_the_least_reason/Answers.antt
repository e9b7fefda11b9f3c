use Rattle.h2_spec_laws.proofs.request_laws.malformed_is_the_least_reason.Goals as goal
use Rattle.h2_spec.proofs.RequestLaws.{least_of_request}

pub returns : goal.returns
returns c = least_of_request
