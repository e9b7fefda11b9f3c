use Rattle.std.proofs.Common.{◌≡◌, ◌≤◌, ◌++◌, length, take}
use Rattle.h2_spec.specs.Hpack.DynamicTable.{fit, total_size}
use Rattle.h2_table.proofs.edit.evict_own.Given as goal

abbrev pub invariant-loop-left : goal.invariant-loop-left
invariant-loop-left g l = record {
  held : l.last ≤ length l.base.table.entries;
  counted : l.left ≡ total_size (l.added.items ++ take l.last l.base.table.entries);
  same : fit (l.added.items ++ take l.last l.base.table.entries) l.available ≡ fit (l.added.items ++ take l.kept l.base.table.entries) l.available;
}

abbrev pub decreases-loop-left : goal.decreases-loop-left
decreases-loop-left g l = l.last
