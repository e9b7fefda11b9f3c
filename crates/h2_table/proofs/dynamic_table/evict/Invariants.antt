use Rattle.std.proofs.Common.{◌≡◌, length}
use Rattle.h2_spec.specs.Hpack.DynamicTable.{total_size, fit}
use Rattle.h2_table.proofs.dynamic_table.evict.Given as goal

abbrev pub invariant-loop-left : goal.invariant-loop-left
invariant-loop-left g l = record {
  counted : l.left ≡ total_size l.ring.items;
  same : fit l.ring.items l.available ≡ fit l.fn.ring.items l.available;
  places : l.ring.capacity ≡ l.fn.ring.capacity;
}

abbrev pub decreases-loop-left : goal.decreases-loop-left
decreases-loop-left g l = length l.ring.items
