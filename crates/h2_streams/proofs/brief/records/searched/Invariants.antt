use Rattle.std.proofs.Common.{◌≡◌, ◌≤◌, ◌-◌, length}
use Rattle.h2_streams.specs.Brief.{briefs_from}
use Rattle.h2_streams.specs.Kept.{place_of}
use Rattle.h2_streams.proofs.brief.records.searched.Given as goal

abbrev pub invariant-loop-low : goal.invariant-loop-low
invariant-loop-low l = record {
  below : l.low ≤ place_of l.id (briefs_from 0 l.runs l.kinds);
  above : place_of l.id (briefs_from 0 l.runs l.kinds) ≤ l.high;
  within : l.high ≤ length l.kinds;
}

abbrev pub decreases-loop-low : goal.decreases-loop-low
decreases-loop-low l = l.high - l.low
