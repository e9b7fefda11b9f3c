use Rattle.std.proofs.Common.{refl, eq-eqb}
use Rattle.h2_debug.proofs.debugger.Debugger.step.Goals as goal

pub returns-then-not-has_next-clause-fault : goal.returns-then-not-has_next-clause-fault
returns-then-not-has_next-clause-fault g c = rw (eq-eqb _ _ (c.has_next.ensures.last c.if-not-has_next.true)) refl
