use Rattle.h2_spec_laws.proofs.cause_laws.what_is_ignored_is_no_error.Goals as goal
use Rattle.h2_spec_laws.proofs.IgnoredLaws.{ignored-without-cause}

pub returns : goal.returns
returns c = ignored-without-cause
