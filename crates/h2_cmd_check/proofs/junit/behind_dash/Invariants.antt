use Rattle.std.proofs.Common.{◌≡◌, length}
use Rattle.h2_cmd_check.specs.JUnit.{behind_dash}
use Rattle.h2_cmd_check.proofs.junit.behind_dash.Given as goal

abbrev pub invariant-loop-first : goal.invariant-loop-first
invariant-loop-first l = behind_dash l.rest ≡ behind_dash l.line

abbrev pub decreases-loop-first : goal.decreases-loop-first
decreases-loop-first l = length l.rest
