use Rattle.std.proofs.Common.{◌≡◌, ◌+◌, ◌≤◌, ◌++◌, length, map, take, vec_len}
use Rattle.std.specs.Vec.{vec_capacity}
use Rattle.h2_streams.specs.Brief.{AreEnds, brief, briefs_from, end_of}
use Rattle.h2_streams.proofs.brief.records.append_each.Given as goal

abbrev pub invariant-loop-stream : goal.invariant-loop-stream
invariant-loop-stream g l = record {
  items : briefs_from 0 l.runs.items l.kinds.items ≡ briefs_from 0 l.fn.runs.items l.fn.kinds.items ++ map brief (take l.stream-index l.more);
  ends : AreEnds 0 l.runs.items;
  end_is : end_of 0 l.runs.items ≡ length l.kinds.items;
  kinds : length l.kinds.items + length l.more ≤ vec_capacity l.kinds + l.stream-index;
  runs : vec_len l.runs + length l.more ≤ vec_capacity l.runs + l.stream-index;
}
