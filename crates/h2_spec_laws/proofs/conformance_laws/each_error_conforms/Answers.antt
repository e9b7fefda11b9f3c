use Rattle.h2_spec_laws.proofs.ConformanceLaws.{error-conforms}
use Rattle.h2_spec_laws.proofs.conformance_laws.each_error_conforms.Goals as goal

pub returns : goal.returns
returns c = error-conforms
