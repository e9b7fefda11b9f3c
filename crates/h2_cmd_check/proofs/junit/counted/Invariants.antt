use Rattle.std.proofs.Common.{◌≡◌, drop, map}
use Rattle.h2_cmd_check.specs.JUnit.{counted, no_counts}
use Rattle.h2_cmd_check.proofs.junit.counted.Given as goal

abbrev pub invariant-loop-line : goal.invariant-loop-line
invariant-loop-line l = counted l.counts (map (λ t. t.now) (drop l.line-index l.lines)) ≡ counted no_counts (map (λ t. t.now) l.lines)
