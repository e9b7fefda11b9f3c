use Rattle.std.proofs.Common.{◌≤◌, drop}
use Rattle.std.specs.Vec.{vec_capacity}
use Rattle.h2_streams.proofs.RebuiltLaws.{Writes}
use Rattle.h2_streams.proofs.lookup.places.write_each.Given as goal

abbrev pub invariant-loop-stream : goal.invariant-loop-stream
invariant-loop-stream g l = record {
  written : Writes l.changed l.fn.records.items (drop l.stream-index l.changed) l.records.items;
  capacity : vec_capacity l.fn.records ≤ vec_capacity l.records;
}
