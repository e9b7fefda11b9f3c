use Rattle.h2_explain_item.proofs.ChangeLaws.{same_connection}
use Rattle.h2_explain_item.proofs.change.changes.is_same_connection.Goals as goal

pub returns-then-is_same_table : goal.returns-then-is_same_table
returns-then-is_same_table c = λ same. let table = c.is_same_table.ensures c.if-is_same_table.true in same_connection c.args.before.now c.args.after.now table.0 table.1 table.2 (c.are_same_counts.ensures same)
