use Rattle.h2_spec_laws.proofs.ConformanceLaws.{generic-of-stream, generic-of-connection}
use Rattle.h2_spec_laws.proofs.conformance_laws.generic_codes_fit_each_error.Goals as goal

pub returns-clause-stream : goal.returns-clause-stream
returns-clause-stream c = generic-of-stream

pub returns-clause-connection : goal.returns-clause-connection
returns-clause-connection c = generic-of-connection
