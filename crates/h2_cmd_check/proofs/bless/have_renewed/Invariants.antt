use Rattle.std.proofs.Common.{◌≡◌, drop, map}
use Rattle.h2_cmd_check.specs.Blessed.{have_renewed}
use Rattle.h2_cmd_check.proofs.bless.have_renewed.Given as goal

abbrev pub invariant-loop-line : goal.invariant-loop-line
invariant-loop-line l = have_renewed (map (λ t. t.now) (drop l.line-index l.lines)) ≡ have_renewed (map (λ t. t.now) l.lines)
