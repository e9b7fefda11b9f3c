use Rattle.std.proofs.Common.{drop}
use Rattle.h2_streams.specs.Joined.{AreKept}
use Rattle.h2_streams.proofs.brief.base.are_kept.Given as goal

abbrev pub invariant-loop-stream : goal.invariant-loop-stream
invariant-loop-stream g l = AreKept l.records (drop l.stream-index l.own) → AreKept l.records l.own
