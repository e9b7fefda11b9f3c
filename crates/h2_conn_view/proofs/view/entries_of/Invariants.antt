use Rattle.std.proofs.Common.{◌≡◌, ◌-◌, length, take}
use Rattle.h2_conn_view.proofs.view.entries_of.Given as goal

abbrev pub invariant-loop-name : goal.invariant-loop-name
invariant-loop-name g l = l.fields.items ≡ take (length l.fields.items) l.table.table.entries

abbrev pub decreases-loop-name : goal.decreases-loop-name
decreases-loop-name g l = length l.table.table.entries - length l.fields.items
