use Rattle.std.proofs.Common.{◌≤◌, arith, subst, sym}
use Rattle.h2_debug.specs.Debugging.{Debugging, farthest_or}
use Rattle.h2_debug.specs.Places.{IsAt}
use Rattle.h2_debug.proofs.KeptLaws.{kept-more}
use Rattle.h2_debug.proofs.debugger.Debugger.walk.Goals as goal

pub forward_to_stop-requires-clause-reached : goal.forward_to_stop-requires-clause-reached
forward_to_stop-requires-clause-reached g c =
    let at = subst (λ (d : Debugging). IsAt d.run c.args.place.now) (sym c.self.view_is) c.requires.place in
    let known = subst (λ (d : Debugging). c.args.place.now.position ≤ d.reached) (sym c.self.view_is) c.requires.known in
    rw c.as_slice.ensures.value (record { place = at; kept_is = c.self.invariant.kept_is; below = omega (arith, known, c.self.invariant.below) })

pub invariant_of-self : goal.invariant_of-self
invariant_of-self g c =
    let s = c.self.inside in
    let there = rw c.as_slice.ensures.value at c.forward_to_stop.ensures.reached in
    kept-more _ s.present (farthest_or s.farthest s.present) s.kept.items _ s.reached s.replayed c.self.invariant there.kept_is c.forward_to_stop.ensures.more

pub returns-clause-at : goal.returns-clause-at
returns-clause-at g c =
    let there = rw c.as_slice.ensures.value at c.forward_to_stop.ensures.reached in
    subst (λ (d : Debugging). IsAt d.run c.forward_to_stop.new.place) c.self.view_is there.place
