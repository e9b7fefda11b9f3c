use Rattle.std.proofs.Common.{◌≡◌, ◌++◌, take}
use Rattle.h2_table.proofs.kept.put_run.Given as goal

abbrev pub invariant-loop-place : goal.invariant-loop-place
invariant-loop-place g l = record {
  same : l.ring.items ≡ l.initial.ring.items ++ take l.place l.run;
  places : l.ring.capacity ≡ l.initial.ring.capacity;
}
