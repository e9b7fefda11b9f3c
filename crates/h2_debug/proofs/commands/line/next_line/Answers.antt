use Rattle.std.proofs.Common.{◌∙◌, ℕ, List, ◌∷◌, ◌++◌, [], ap, arith, take}
use Rattle.h2_debug.specs.Commands.{longest}
use Rattle.h2_debug.proofs.Taking.{keeps-more, taken-line, taken-octet}
use Rattle.h2_debug.proofs.commands.line.next_line.Goals as goal

pub returns-then-octet-eq10-clause-ok : goal.returns-then-octet-eq10-clause-ok
returns-then-octet-eq10-clause-ok g c =
    let i = c.loop-octet.invariant.taken in
    let h = rw c.in-Some.is at c.in_ok-octet.ensures.passed in
    (i.0, taken-line _ _ _ _ _ _ _ _ i.1 (rw c.in-Some.is at c.in_ok-octet.ensures.taken) (omega (arith, h)) c.if-octet-eq10.true, i.2)

pub loop-octet-preserved : goal.loop-octet-preserved
loop-octet-preserved g c =
    let i = c.loop-octet.invariant.taken in
    let h = rw c.in-Some.is at c.in_ok-octet.ensures.passed in
    record {
      taken = (
        i.0 ++ c.in-Some.octet ∷ [],
        taken-octet _ _ _ _ _ _ _ _ i.1 (rw c.in-Some.is at c.in_ok-octet.ensures.taken) (omega (arith, h)) (grind (arith, c.if-octet-eq10.false)),
        c.keep.ensures ∙ ap (λ (t : List ℕ). take longest (t ++ c.in-Some.octet ∷ [])) i.2 ∙ keeps-more i.0 c.in-Some.octet,
      );
      well = c.in_ok-octet.ensures.well;
      name = c.next.ensures.name ∙ c.loop-octet.invariant.name;
    }
