use Rattle.h2_spec_laws.proofs.ConformanceLaws.{stream-as-connection}
use Rattle.h2_spec_laws.proofs.conformance_laws.a_stream_error_can_end_the_connection.Goals as goal

pub returns : goal.returns
returns c = stream-as-connection
