use Rattle.std.proofs.Common.{◌≡◌, ◌∙◌, ap, arith}
use Rattle.std.specs.Prelude.{map}
use Rattle.h2_debug.specs.Breakpoints.{break_of}
use Rattle.h2_debug.specs.Places.{Placed, events}
use Rattle.h2_debug.proofs.BreakLaws.{stop-end, stop-here, stop-later, stop-least}
use Rattle.h2_debug.proofs.places.forward.forward_to_stop.Goals as goal

pub returns-then-not-branch-clause-position : goal.returns-then-not-branch-clause-position
returns-then-not-branch-clause-position g c =
    let r = c.args.source.now in
    let ends = rw c.if-not-branch.true at c.in_ok-keep_and_advance.ensures.advances in
    let here : c.keep_and_advance.new.place.position ≡ c.loop-place.place.position = ap (λ (p : Placed). p.position) ends.same in
    let still = stop-end (map break_of c.args.breaks.now) (events r) c.loop-place.place.position ends.last in
    omega (arith, here, still, c.loop-place.invariant.same, c.loop-place.invariant.ahead)

pub returns-then-any_match-clause-position : goal.returns-then-any_match-clause-position
returns-then-any_match-clause-position g c =
    let took = rw c.if-not-branch.false at c.in_ok-keep_and_advance.ensures.advances in
    let says = rw (c.position-in-loop-place.ensures, c.octets_from.ensures.octets, c.used-used.ensures, c.sent.ensures) at c.any_match.ensures in
    let here = stop-here c.args.source.now c.loop-place.place c.keep_and_advance.new.place (map break_of c.args.breaks.now) c.any_match.result took says c.if-any_match.true in
    omega (arith, here, c.loop-place.invariant.same, took.next, c.position.ensures, c.loop-place-test.true)

pub loop-place-preserved : goal.loop-place-preserved
loop-place-preserved g c =
    let took = rw c.if-not-branch.false at c.in_ok-keep_and_advance.ensures.advances in
    let says = rw (c.position-in-loop-place.ensures, c.octets_from.ensures.octets, c.used-used.ensures, c.sent.ensures) at c.any_match.ensures in
    let later = stop-later c.args.source.now c.loop-place.place c.keep_and_advance.new.place (map break_of c.args.breaks.now) c.any_match.result took says c.if-any_match.false in
    record {
      reached = c.in_ok-keep_and_advance.ensures.reached;
      more = omega (arith, c.loop-place.invariant.more, c.in_ok-keep_and_advance.ensures.more);
      ahead = omega (arith, took.next, c.position.ensures, c.loop-place-test.true);
      later = omega (arith, c.loop-place.invariant.later, took.next);
      ran = omega (arith, c.loop-place.invariant.later, c.loop-place.invariant.ran, took.next, took.ran);
      same = c.loop-place.invariant.same ∙ later;
    }

pub returns-clause-position : goal.returns-clause-position
returns-clause-position g c =
    let least = stop-least (map break_of c.args.breaks.now) (events c.args.source.now) c.loop-place.place.position in
    omega (arith, least, c.loop-place.invariant.same, c.loop-place.invariant.ahead, c.position.ensures, c.loop-place-test.false)
