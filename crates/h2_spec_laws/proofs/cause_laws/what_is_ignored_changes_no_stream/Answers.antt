use Rattle.h2_spec_laws.proofs.IgnoredLaws.{ignored-data, ignored-block}
use Rattle.h2_spec_laws.proofs.cause_laws.what_is_ignored_changes_no_stream.Goals as goal

pub returns-clause-data : goal.returns-clause-data
returns-clause-data c = ignored-data

pub returns-clause-block : goal.returns-clause-block
returns-clause-block c = ignored-block
