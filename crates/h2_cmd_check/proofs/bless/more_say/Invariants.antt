use Rattle.std.proofs.Common.{◌≡◌, drop, map}
use Rattle.h2_cmd_check.specs.Blessed.{more_say}
use Rattle.h2_cmd_check.proofs.bless.more_say.Given as goal

abbrev pub invariant-loop-line : goal.invariant-loop-line
invariant-loop-line l = more_say (map (λ t. t.now) (drop l.line-index l.lines)) ≡ more_say (map (λ t. t.now) l.lines)
