use Rattle.std.proofs.Common.{◌≡◌, ◌++◌, ◌-◌, length}
use Rattle.h2_frame.proofs.outbox.gather.Given as goal

abbrev pub invariant-loop-portion : goal.invariant-loop-portion
invariant-loop-portion g l = record {
  same : l.portion.items ++ l.rest ≡ l.fn.portion.items ++ l.fn.rest;
}

abbrev pub decreases-loop-portion : goal.decreases-loop-portion
decreases-loop-portion g l = 66560 - length l.portion.items
