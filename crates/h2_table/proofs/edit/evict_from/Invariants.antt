use Rattle.std.proofs.Common.{◌≡◌, length, take}
use Rattle.h2_table.proofs.edit.evict_from.Given as goal

abbrev pub invariant-loop-ring : goal.invariant-loop-ring
invariant-loop-ring g l = record {
  same : take l.kept l.ring.items ≡ take l.kept l.fn.ring.items;
  places : l.ring.capacity ≡ l.fn.ring.capacity;
}

abbrev pub decreases-loop-ring : goal.decreases-loop-ring
decreases-loop-ring g l = length l.ring.items
