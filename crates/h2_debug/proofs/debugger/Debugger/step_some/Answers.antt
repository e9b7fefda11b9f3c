use Rattle.std.proofs.Common.{rules, ◌≡◌, ◌∙◌, ◌+◌, ◌-◌, ◌≤◌, ◌<◌, ◌^◌, ap, length, arith, subst, ℕ}
use Rattle.h2_debug.specs.Debugging.{Debugging, moved_by}
use Rattle.h2_debug.specs.Places.{end}
use Rattle.h2_debug.proofs.KeptLaws.{end-few, replay-start-ahead, replay-start-reached, replay-start-within}
use Rattle.h2_debug.proofs.debugger.Debugger.step_some.Goals as goal

pub move_to-requires-clause-known : goal.move_to-requires-clause-known
move_to-requires-clause-known g c =
    let d = c.args.self.now in
    let within : d.position ≤ d.reached = subst (λ (x : Debugging). x.position ≤ x.reached) c.self.view_is c.self.invariant.within in
    let reached = replay-start-reached c.saturating_add-target.result d within in
    rw c.in_ok-place.ensures.same (omega (arith, reached, c.in_ok-place.ensures.start))

pub move_to-requires-clause-ahead : goal.move_to-requires-clause-ahead
move_to-requires-clause-ahead g c =
    let d = c.args.self.now in
    let place = c.in_ok-place.place in
    let target = c.saturating_add-target.result in
    let start : c.position-start.result ≡ d.position = search rules in
    let later : d.position ≤ target = omega (arith, c.saturating_add-target.ensures, start, c.ranges.count, c.position-start.type_inv) in
    let within = replay-start-within target d later in
    omega (arith, within, c.in_ok-place.ensures.start)

pub returns-in-Some-clause-ok : goal.returns-in-Some-clause-ok
returns-in-Some-clause-ok g c =
    let d = c.args.self.now in
    let place = c.in_ok-place.place in
    let target = c.saturating_add-target.result in
    let start : c.position-start.result ≡ d.position = search rules in
    let later : d.position ≤ target = omega (arith, c.saturating_add-target.ensures, start, c.ranges.count, c.position-start.type_inv) in
    let moves = rw (c.in-Some.is, c.in_ok-place.ensures.same) at c.in_ok-move_to.ensures.some in
    let few : end d.run ≤ length c.self.inside.octets.items = rw (← c.self.view_is) (end-few _) in
    let bound : length c.self.inside.octets.items < 2 ^ 63 = omega (arith, c.self.inside.octets.ok.0, c.self.inside.octets.ok.1, c.self.inside.octets.small) in
    let ahead = replay-start-ahead target d later in
    let within = replay-start-within target d later in
    let inside = c.in_ok-place.ensures.at.within in
    let ran : place.ran + (c.in-Some.position - place.position) ≡ d.ran + (c.in-Some.position - d.position) =
    omega (arith, c.in_ok-place.ensures.ran, c.in_ok-place.ensures.start, ahead, within, inside, moves.0) in
    (omega (arith, moves.0, c.saturating_add-target.ensures, start, few, bound), moves.2 ∙ ap (λ (n : ℕ). moved_by n c.in-Some.position d) ran)
