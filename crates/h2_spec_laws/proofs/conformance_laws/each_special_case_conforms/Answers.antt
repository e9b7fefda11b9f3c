use Rattle.h2_spec_laws.proofs.ConformanceLaws.{case-conforms}
use Rattle.h2_spec_laws.proofs.conformance_laws.each_special_case_conforms.Goals as goal

pub returns : goal.returns
returns c = case-conforms
