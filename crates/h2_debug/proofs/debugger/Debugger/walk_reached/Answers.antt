use Rattle.std.proofs.Common.{◌≡◌, ◌∙◌, ◌+◌, ◌-◌, ◌<◌, ◌≤◌, ap, arith, refl, subst, ℕ}
use Rattle.h2_spec.specs.Texts.Debug.{stop}
use Rattle.h2_debug.specs.Debugging.{Debugging, replay_start}
use Rattle.h2_debug.specs.Places.{events}
use Rattle.h2_debug.proofs.BreakLaws.{stop-between, stop-is}
use Rattle.h2_debug.proofs.KeptLaws.{leg-ahead, replay-start-ahead, replay-start-reached, replay-start-within}
use Rattle.h2_debug.proofs.debugger.Debugger.walk_reached.Goals as goal

from-known : (target s : ℕ) (d : Debugging) → s ≡ replay_start target d → d.position ≤ d.reached → d.position ≤ target → (s ≤ d.reached) × (d.position ≤ s) × (s ≤ target)
from-known target s d is within le = (omega (arith, is, replay-start-reached target d within), omega (arith, is, replay-start-ahead target d le), omega (arith, is, replay-start-within target d le))

pub loop-place-init : goal.loop-place-init
loop-place-init g c =
    let d = c.args.self.now in
    let within : d.position ≤ d.reached = subst (λ (x : Debugging). x.position ≤ x.reached) c.self.view_is c.self.invariant.within in
    let past = (stop-is d.breaks (events d.run) d.position c.requires.more).later in
    record {
      self = refl;
      at = c.requires.place;
      known = omega (arith, within, c.requires.here);
      later = omega (arith, c.requires.here);
      ran = omega (arith, c.requires.ran, c.requires.here);
      before = omega (arith, past, c.requires.here);
      same = ap (λ (n : ℕ). stop d.breaks (events d.run) n) c.requires.here;
    }

pub returns-then-position-bound-clause-known : goal.returns-then-position-bound-clause-known
returns-then-position-bound-clause-known g c =
    let d = c.args.self.now in
    let s = c.in_ok-place.field-0.position in
    let walked = rw c.loop-place.invariant.self at c.in_ok-walk.ensures.position in
    let start = rw (c.in_ok-walk.ensures.same, c.loop-place.invariant.self) at c.in_ok-place.ensures.start in
    let past : d.position ≤ c.position-position.result - 1 =
    omega (arith, walked, c.loop-place.invariant.later, c.loop-place.invariant.before, c.loop-place.invariant.same, c.position-in-loop-place.ensures, c.position-position.ensures) in
    let from = from-known _ s d start (omega (arith, c.loop-place.invariant.later, c.loop-place.invariant.known)) (omega (arith, past)) in
    from.0

pub returns-then-position-bound-clause-later : goal.returns-then-position-bound-clause-later
returns-then-position-bound-clause-later g c =
    let d = c.args.self.now in
    let s = c.in_ok-place.field-0.position in
    let walked = rw c.loop-place.invariant.self at c.in_ok-walk.ensures.position in
    let start = rw (c.in_ok-walk.ensures.same, c.loop-place.invariant.self) at c.in_ok-place.ensures.start in
    let past : d.position ≤ c.position-position.result - 1 =
    omega (arith, walked, c.loop-place.invariant.later, c.loop-place.invariant.before, c.loop-place.invariant.same, c.position-in-loop-place.ensures, c.position-position.ensures) in
    let from = from-known _ s d start (omega (arith, c.loop-place.invariant.later, c.loop-place.invariant.known)) (omega (arith, past)) in
    from.1

pub returns-then-position-bound-clause-before : goal.returns-then-position-bound-clause-before
returns-then-position-bound-clause-before g c =
    let d = c.args.self.now in
    let s = c.in_ok-place.field-0.position in
    let walked = rw c.loop-place.invariant.self at c.in_ok-walk.ensures.position in
    let start = rw (c.in_ok-walk.ensures.same, c.loop-place.invariant.self) at c.in_ok-place.ensures.start in
    let past : d.position ≤ c.position-position.result - 1 =
    omega (arith, walked, c.loop-place.invariant.later, c.loop-place.invariant.before, c.loop-place.invariant.same, c.position-in-loop-place.ensures, c.position-position.ensures) in
    let from = from-known _ s d start (omega (arith, c.loop-place.invariant.later, c.loop-place.invariant.known)) (omega (arith, past)) in
    omega (arith, from.2, walked, c.loop-place.invariant.same, c.loop-place.invariant.before, c.position-in-loop-place.ensures, c.position-position.ensures)

pub returns-then-position-bound-clause-stop : goal.returns-then-position-bound-clause-stop
returns-then-position-bound-clause-stop g c =
    let d = c.args.self.now in
    let s = c.in_ok-place.field-0.position in
    let walked = rw c.loop-place.invariant.self at c.in_ok-walk.ensures.position in
    let start = rw (c.in_ok-walk.ensures.same, c.loop-place.invariant.self) at c.in_ok-place.ensures.start in
    let past : d.position ≤ c.position-position.result - 1 =
    omega (arith, walked, c.loop-place.invariant.later, c.loop-place.invariant.before, c.loop-place.invariant.same, c.position-in-loop-place.ensures, c.position-position.ensures) in
    let from = from-known _ s d start (omega (arith, c.loop-place.invariant.later, c.loop-place.invariant.known)) (omega (arith, past)) in
    let before : s < stop d.breaks (events d.run) d.position = omega (arith, from.2, walked, c.loop-place.invariant.same, c.loop-place.invariant.before, c.position-in-loop-place.ensures, c.position-position.ensures) in
    stop-between d.breaks (events d.run) d.position s c.requires.more from.1 before

pub loop-place-smaller : goal.loop-place-smaller
loop-place-smaller g c =
    let d = c.args.self.now in
    let reached : c.self.inside.reached ≡ d.reached = ap (λ (x : Debugging). x.reached) c.self.view_is in
    let start = rw (c.in_ok-walk.ensures.same, c.loop-place.invariant.self) at c.in_ok-place-2.ensures.start in
    let within : c.loop-place.place.position + 16384 ≤ d.reached = omega (arith, reached, c.position.ensures, c.loop-place-test.true) in
    let leg = leg-ahead c.loop-place.place.position _ c.in_ok-place-2.field-0.position d start (omega (arith, c.position-in-loop-place.ensures)) c.loop-place.invariant.later within in
    omega (arith, leg.0, within)

pub loop-place-preserved : goal.loop-place-preserved
loop-place-preserved g c =
    let d = c.args.self.now in
    let reached : c.self.inside.reached ≡ d.reached = ap (λ (x : Debugging). x.reached) c.self.view_is in
    let walked = rw c.loop-place.invariant.self at c.in_ok-walk.ensures.position in
    let start = rw (c.in_ok-walk.ensures.same, c.loop-place.invariant.self) at c.in_ok-place-2.ensures.start in
    let within : c.loop-place.place.position + 16384 ≤ d.reached = omega (arith, reached, c.position.ensures, c.loop-place-test.true) in
    let leg = leg-ahead c.loop-place.place.position _ c.in_ok-place-2.field-0.position d start (omega (arith, c.position-in-loop-place.ensures)) c.loop-place.invariant.later within in
    let later : d.position ≤ c.in_ok-place-2.field-0.position = omega (arith, leg.0, c.loop-place.invariant.later) in
    let before : c.in_ok-place-2.field-0.position < stop d.breaks (events d.run) d.position =
    omega (arith, leg.1, walked, c.loop-place.invariant.same, c.position-in-loop-place.ensures, c.position-position.ensures, c.if-position-bound.false) in
    record {
      self = c.in_ok-place-2.ensures.same ∙ c.in_ok-walk.ensures.same ∙ c.loop-place.invariant.self;
      at = rw (c.in_ok-walk.ensures.same, c.loop-place.invariant.self) at c.in_ok-place-2.ensures.at;
      known = omega (arith, leg.1, within);
      later = later;
      before = before;
      ran = rw (c.in_ok-walk.ensures.same, c.loop-place.invariant.self) at c.in_ok-place-2.ensures.ran;
      same = stop-between d.breaks (events d.run) d.position c.in_ok-place-2.field-0.position c.requires.more later before;
    }
