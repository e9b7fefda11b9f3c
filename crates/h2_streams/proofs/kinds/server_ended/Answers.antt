use Rattle.std.proofs.Common.{rules}
use Rattle.h2_spec.specs.Requests.StreamEnds.{server_ended}
use Rattle.h2_streams.proofs.kinds.server_ended.Goals as goal

pub returns-in-BothOpen-clause-value : goal.returns-in-BothOpen-clause-value
unfolding server_ended
returns-in-BothOpen-clause-value c = search rules
