use Rattle.h2_spec_laws.proofs.IgnoredLaws.{ignored-listed}
use Rattle.h2_spec_laws.proofs.cause_laws.what_is_ignored_is_listed.Goals as goal

pub returns : goal.returns
returns c = ignored-listed
