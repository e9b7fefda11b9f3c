use Rattle.std.proofs.Common.{◌≡◌, ◌≤◌, ◌++◌, drop, length}
use Rattle.h2_cmd_judge.specs.Recorded.{aligned}
use Rattle.h2_cmd_judge.proofs.recorded.aligned.Given as goal

abbrev pub invariant-loop-seen : goal.invariant-loop-seen
invariant-loop-seen l = record {
  within : l.from ≤ length l.own;
  events : l.events.items ++ aligned (drop l.from l.own) l.after l.last (drop l.seen-index l.theirs) ≡ aligned l.own 0 l.last l.theirs;
}
