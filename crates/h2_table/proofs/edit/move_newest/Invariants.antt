use Rattle.std.proofs.Common.{◌≡◌, ◌++◌, length}
use Rattle.h2_table.proofs.edit.move_newest.Given as goal

abbrev pub invariant-loop-entry : goal.invariant-loop-entry
invariant-loop-entry g l = record {
  all : l.added.items ++ l.ring.items ≡ l.fn.added.items ++ l.fn.ring.items;
  places : l.ring.capacity ≡ l.fn.ring.capacity;
}

abbrev pub decreases-loop-entry : goal.decreases-loop-entry
decreases-loop-entry g l = length l.added.items
