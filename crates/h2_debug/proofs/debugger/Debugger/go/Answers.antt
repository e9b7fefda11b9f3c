use Rattle.std.proofs.Common.{◌≡◌, ◌∙◌, ◌+◌, ◌-◌, ◌≤◌, arith, ap}
use Rattle.h2_debug.specs.Debugging.{Debugging, replay_start}
use Rattle.h2_debug.proofs.KeptLaws.{few-again, kept-counted, replay-start-reached}
use Rattle.h2_debug.proofs.debugger.Debugger.go.Goals as goal

pub overflow_sub-self : goal.overflow_sub-self
overflow_sub-self g c =
    let d = c.args.self.now in
    let moves = rw (c.in-Some.is, c.in_ok-place.ensures.same) at c.in_ok-move_to.ensures.some in
    let ran : c.self-3.inside.present.ran ≡ c.in_ok-place.place.ran + (c.in-Some.position - c.in_ok-place.place.position) = ap (λ (x : Debugging). x.ran) (c.self-3.view_is ∙ moves.2) in
    let reached : c.self-2.inside.reached ≡ d.reached = ap (λ (x : Debugging). x.reached) (c.self-2.view_is ∙ c.in_ok-place.ensures.same) in
    let position : c.self-2.inside.present.position ≡ d.position = ap (λ (x : Debugging). x.position) (c.self-2.view_is ∙ c.in_ok-place.ensures.same) in
    let start : replay_start c.args.target d ≤ d.reached = replay-start-reached c.args.target d (rw (← position, ← reached) c.self-2.invariant.within) in
    rw (c.ran.ensures, c.saturating_sub-first_runs.ensures, reached) (omega (arith, ran, moves.0, moves.1, c.in_ok-place.ensures.place.1, c.in_ok-place.ensures.place.2, start))

pub invariant_of-self : goal.invariant_of-self
invariant_of-self g c =
    let d = c.args.self.now in
    let moves = rw (c.in-Some.is, c.in_ok-place.ensures.same) at c.in_ok-move_to.ensures.some in
    let ran : c.self-3.inside.present.ran ≡ c.in_ok-place.place.ran + (c.in-Some.position - c.in_ok-place.place.position) = ap (λ (x : Debugging). x.ran) (c.self-3.view_is ∙ moves.2) in
    let all : c.self-3.inside.present.ran ≡ c.args.target - replay_start c.args.target d = omega (arith, ran, moves.0, moves.1, c.in_ok-place.ensures.place.1, c.in_ok-place.ensures.place.2) in
    let reached : c.self-2.inside.reached ≡ d.reached = ap (λ (x : Debugging). x.reached) (c.self-2.view_is ∙ c.in_ok-place.ensures.same) in
    let few : c.ran.result - c.saturating_sub-first_runs.result ≤ 63 = rw (c.ran.ensures, c.saturating_sub-first_runs.ensures, reached) (few-again c.args.target d _ all) in
    kept-counted _ _ _ _ _ _ _ c.self-3.invariant few
