use Rattle.std.proofs.Common.{rules}
use Rattle.h2_spec.specs.Stream.{octets_waiting}
use Rattle.h2_streams.proofs.kinds.octets_waiting.Goals as goal

pub returns-in-Some : goal.returns-in-Some
unfolding octets_waiting
returns-in-Some c = search rules
