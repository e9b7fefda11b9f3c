use Rattle.h2_spec_laws.proofs.cause_laws.what_is_ignored_changes_nothing.Goals as goal
use Rattle.h2_spec_laws.proofs.IgnoredLaws.{ignored-changes-nothing}

pub returns : goal.returns
returns c = ignored-changes-nothing
