use Rattle.std.proofs.Common.{◌∙◌, refl, sym, eq-eqb, ltb-true}
use Rattle.h2_debug.proofs.BreakLaws.{stop-is}
use Rattle.h2_debug.proofs.debugger.Debugger.run.Goals as goal

pub returns-then-not-has_next-clause-fault : goal.returns-then-not-has_next-clause-fault
returns-then-not-has_next-clause-fault g c = rw (eq-eqb _ _ (c.has_next.ensures.last c.if-not-has_next.true)) refl

pub returns-clause-first : goal.returns-clause-first
returns-clause-first g c = rw c.in_ok-position.ensures.ok.0 (stop-is _ _ _ (ltb-true _ _ (sym c.has_next.ensures.more ∙ c.if-not-has_next.false)))
