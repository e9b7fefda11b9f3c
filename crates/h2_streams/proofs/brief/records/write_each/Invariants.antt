use Rattle.std.proofs.Common.{◌≡◌, ◌≤◌, drop, length, map}
use Rattle.std.specs.Vec.{vec_capacity}
use Rattle.h2_streams.specs.Brief.{brief, briefs_from}
use Rattle.h2_streams.proofs.RebuiltLaws.{Writes}
use Rattle.h2_streams.proofs.brief.records.write_each.Given as goal

abbrev pub invariant-loop-stream : goal.invariant-loop-stream
invariant-loop-stream g l = record {
  written : Writes (map brief l.changed) (briefs_from 0 l.runs l.fn.kinds.items) (map brief (drop l.stream-index l.changed)) (briefs_from 0 l.runs l.kinds.items);
  len : length l.kinds.items ≡ length l.fn.kinds.items;
  capacity : vec_capacity l.fn.kinds ≤ vec_capacity l.kinds;
}
