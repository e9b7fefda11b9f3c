use Rattle.std.proofs.Common.{◌≡◌, ◌≤◌, take, drop}
use Rattle.h2_table.proofs.kept.Run.common.Given as goal

abbrev pub invariant-loop-place : goal.invariant-loop-place
invariant-loop-place g l = record {
  same : take l.place l.self ≡ take l.place (drop l.from l.ring.items);
  few : l.place ≤ l.most;
}
