use Rattle.std.proofs.Common.{◌≡◌, length}
use Rattle.h2_cmd_check.specs.JUnit.{directive_of}
use Rattle.h2_cmd_check.proofs.junit.directive_of.Given as goal

abbrev pub invariant-loop-after : goal.invariant-loop-after
invariant-loop-after l = directive_of l.rest ≡ directive_of l.line

abbrev pub decreases-loop-after : goal.decreases-loop-after
decreases-loop-after l = length l.rest
