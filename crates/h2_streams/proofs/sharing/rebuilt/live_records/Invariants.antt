use Rattle.std.proofs.Common.{◌≡◌, ◌+◌, ◌≤◌, ◌++◌, length}
use Rattle.std.specs.Map.{values_of}
use Rattle.std.specs.Vec.{vec_capacity}
use Rattle.h2_streams.specs.Rebuilt as spec
use Rattle.h2_streams.proofs.sharing.rebuilt.live_records.Given as goal

abbrev pub invariant-loop-place : goal.invariant-loop-place
invariant-loop-place g l = record {
  items : l.list.items ++ spec.live_at l.records l.place-iterator ≡ spec.live_at l.records (values_of l.live.entries);
  len : length l.list.items + length l.place-iterator ≤ length l.live.entries;
  capacity : length l.live.entries ≤ vec_capacity l.list;
}
