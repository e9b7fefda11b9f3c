use Rattle.h2_spec_laws.proofs.request_laws.size_update_comes_first.Goals as goal
use Rattle.h2_spec.proofs.RequestLaws.{response_block-signal}

pub returns : goal.returns
returns c = response_block-signal
