use Rattle.std.proofs.Common.{◌≡◌, ◌∙◌, ◌≤◌, arith, subst, sym}
use Rattle.std.specs.Prelude.{nat_lt}
use Rattle.std.proofs.lemmas.Bool.{ltb-false}
use Rattle.h2_debug.specs.Debugging.{Debugging}
use Rattle.h2_debug.specs.Places.{end}
use Rattle.h2_debug.proofs.debugger.Debugger.has_next.Goals as goal

pub returns-clause-last : goal.returns-clause-last
returns-clause-last g c = λ none.
    let d = c.args.self.now in
    let within : d.position ≤ end d.run = subst (λ (x : Debugging). x.position ≤ end x.run) c.self.view_is c.self.invariant.now.within in
    let is : c.has_next.result ≡ nat_lt d.position (end d.run) = rw (← c.self.view_is) (rw c.as_slice.ensures.value at c.has_next.ensures) in
    omega (arith, within, ltb-false d.position (end d.run) (sym is ∙ none))
