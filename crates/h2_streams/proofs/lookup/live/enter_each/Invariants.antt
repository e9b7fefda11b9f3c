use Rattle.std.proofs.Common.{◌≤◌, drop}
use Rattle.indexmap.specs.IndexMap.{spare}
use Rattle.h2_spec.specs.Stream.{live_count}
use Rattle.h2_streams.proofs.RebuiltLaws.{Enters}
use Rattle.h2_streams.proofs.lookup.live.enter_each.Given as goal

abbrev pub invariant-loop-stream : goal.invariant-loop-stream
invariant-loop-stream g l = record {
  entered : Enters l.streams l.records (drop l.stream-index l.streams) l.live.entries;
  enough : live_count (drop l.stream-index l.streams) ≤ spare l.live;
}
