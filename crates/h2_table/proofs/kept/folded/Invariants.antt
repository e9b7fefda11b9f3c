use Rattle.std.proofs.Common.{◌≡◌, ◌-◌, ◌≤◌, take, drop}
use Rattle.h2_table.proofs.kept.folded.Given as goal

abbrev pub invariant-loop-place : goal.invariant-loop-place
invariant-loop-place g l = record {
  same : l.list.fields ≡ take (l.place - l.from) (drop l.from l.ring.items);
  order : l.from ≤ l.place;
}
