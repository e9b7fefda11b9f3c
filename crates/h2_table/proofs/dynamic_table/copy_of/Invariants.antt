use Rattle.std.proofs.Common.{◌≡◌, take, length}
use Rattle.h2_table.proofs.dynamic_table.copy_of.Given as goal

abbrev pub invariant-loop-i : goal.invariant-loop-i
invariant-loop-i g l = record {
  same : l.copy.items ≡ take l.i l.ring.items;
  count : length l.copy.items ≡ l.i;
  places : l.copy.capacity ≡ l.ring.capacity;
}
