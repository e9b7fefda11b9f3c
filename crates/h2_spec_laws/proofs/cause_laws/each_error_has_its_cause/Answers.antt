use Rattle.h2_spec_laws.proofs.cause_laws.each_error_has_its_cause.Goals as goal
use Rattle.h2_spec_laws.proofs.CauseLaws.{step-has-code}

pub returns : goal.returns
returns c = step-has-code
