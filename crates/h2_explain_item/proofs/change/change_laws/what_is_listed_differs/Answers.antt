use Rattle.h2_explain_item.specs.Changes.{connection_table}
use Rattle.h2_explain_item.proofs.ChangeLaws.{kept_differ, stream_differ}
use Rattle.h2_explain_item.proofs.change.change_laws.what_is_listed_differs.Goals as goal

pub returns-clause-connection : goal.returns-clause-connection
returns-clause-connection c = λ before after. kept_differ (connection_table before after)

pub returns-clause-stream : goal.returns-clause-stream
returns-clause-stream c = stream_differ
