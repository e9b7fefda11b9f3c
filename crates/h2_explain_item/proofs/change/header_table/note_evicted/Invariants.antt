use Rattle.std.proofs.Common.{◌≡◌, ◌≤◌, ◌++◌, length, drop, take}
use Rattle.h2_spec.specs.Hpack.DynamicTable.{fit, total_size}
use Rattle.h2_explain_item.specs.FollowedTable.{evictions, evictor_seen, gone_with}
use Rattle.h2_explain_item.proofs.change.header_table.note_evicted.Given as goal

abbrev pub invariant-loop-left : goal.invariant-loop-left
invariant-loop-left g l = record {
  inside : l.place ≤ length l.table.table.entries;
  counted : l.left ≡ total_size (take l.place l.table.table.entries);
  same : fit (take l.place l.table.table.entries) l.available ≡ fit l.table.table.entries l.available;
  kept : l.kept.items ≡ gone_with (evictor_seen l.by) (drop l.place l.table.table.entries) l.fn.kept.items;
  listed : l.out.items ≡ l.fn.out.items ++ evictions (drop l.place l.table.table.entries);
}

abbrev pub decreases-loop-left : goal.decreases-loop-left
decreases-loop-left g l = l.left
