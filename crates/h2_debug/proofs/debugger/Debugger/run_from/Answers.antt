use Rattle.std.proofs.Common.{rules, ◌≡◌, ◌<◌, ◌≤◌, ◌*◌, arith, length, subst, sym}
use Rattle.std.specs.Prelude.{max}
use Rattle.h2_debug.specs.Debugging.{Debugging, farthest_or}
use Rattle.h2_debug.specs.Places.{IsAt}
use Rattle.h2_debug.proofs.KeptLaws.{kept-arrived, kept-more}
use Rattle.h2_debug.proofs.debugger.Debugger.run_from.Goals as goal

pub invariant_of-self : goal.invariant_of-self
invariant_of-self g c =
    let s = c.self.inside in
    kept-more _ s.present (farthest_or s.farthest s.present) s.kept.items _ s.reached s.replayed c.self.invariant (c.keep_if_due.ensures.kept _ c.self.invariant.now c.self.invariant.kept_is) c.keep_if_due.ensures.more

pub forward_to_stop-requires-clause-reached : goal.forward_to_stop-requires-clause-reached
forward_to_stop-requires-clause-reached g c =
    let at = subst (λ (d : Debugging). IsAt d.run c.args.place) (sym c.self.view_is) c.requires.place in
    let known = subst (λ (d : Debugging). c.args.place.position ≤ d.reached) (sym c.self.view_is) c.requires.known in
    rw c.as_slice.ensures.value (record {
      place = at;
      kept_is = c.keep_if_due.ensures.kept _ c.self.invariant.now c.self.invariant.kept_is;
      below = omega (arith, known, c.self.invariant.below, c.keep_if_due.ensures.more);
    })

pub invariant_of-self-in_err-forward_to_stop : goal.invariant_of-self-in_err-forward_to_stop
invariant_of-self-in_err-forward_to_stop g c =
    let s = c.self.inside in
    let there = rw c.as_slice.ensures.value at c.forward_to_stop.ensures.reached in
    let more : length s.kept.items ≤ length c.forward_to_stop.new.kept.items = omega (arith, c.keep_if_due.ensures.more, c.forward_to_stop.ensures.more) in
    kept-more _ s.present (farthest_or s.farthest s.present) s.kept.items _ s.reached s.replayed c.self.invariant there.kept_is more

pub invariant_of-self-2 : goal.invariant_of-self-2
invariant_of-self-2 g c =
    let s = c.self.inside in
    let p = c.forward_to_stop.new.place in
    let there = rw c.as_slice.ensures.value at c.in_ok-forward_to_stop.ensures.reached in
    let left : s.present.position < length c.forward_to_stop.new.kept.items * 64 = omega (arith, c.in_ok-keep_if_due.ensures.below, c.in_ok-forward_to_stop.ensures.more) in
    let more : length s.kept.items ≤ length c.forward_to_stop.new.kept.items = omega (arith, c.in_ok-keep_if_due.ensures.more, c.in_ok-forward_to_stop.ensures.more) in
    let top : c.max-self-inside.result ≡ max p.position s.reached = search rules in
    rw (c.arrive.ensures.present, top) (kept-arrived _ s.present (farthest_or s.farthest s.present) p _ s.kept.items _ s.reached s.replayed c.self.invariant there left more c.arrive.ensures.ahead c.arrive.ensures.behind)
