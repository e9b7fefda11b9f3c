use Rattle.std.proofs.Common.{◌≡◌, ◌≤◌}
use Rattle.std.specs.VecDeque.{deque_len, deque_capacity}
use Rattle.h2_spec.specs.Hpack.DynamicTable.{total_size, fit}
use Rattle.h2_table.proofs.edit.evict_added.Given as goal

abbrev pub invariant-loop-left : goal.invariant-loop-left
invariant-loop-left g l = record {
  counted : l.left ≡ total_size l.added.items;
  same : fit l.added.items l.available ≡ fit l.fn.added.items l.available;
  fewer : deque_len l.added ≤ deque_len l.fn.added;
  places : deque_capacity l.added ≡ deque_capacity l.fn.added;
}

abbrev pub decreases-loop-left : goal.decreases-loop-left
decreases-loop-left g l = deque_len l.added
