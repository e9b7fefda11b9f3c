use Rattle.std.proofs.Common.{rules}
use Rattle.h2_explain_item.proofs.change.changes.connection_changes.Goals as goal

pub returns : goal.returns
returns g c = c.put_connection.ensures

pub returns-then-is_same_connection : goal.returns-then-is_same_connection
returns-then-is_same_connection g c = rw (c.is_same_connection.ensures c.if-is_same_connection.true) (search rules)
