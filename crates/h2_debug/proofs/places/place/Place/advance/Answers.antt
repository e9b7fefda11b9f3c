use Rattle.std.proofs.Common.{sym, subst, arith}
use Rattle.h2_debug.specs.Places.{IsAt, Placed}
use Rattle.h2_debug.proofs.PlaceLaws.{place-last, place-next}
use Rattle.h2_debug.proofs.places.place.Place.advance.Goals as goal

pub returns-in_default-clause-advances : goal.returns-in_default-clause-advances
returns-in_default-clause-advances g c =
    let here = subst (λ (p : Placed). IsAt c.args.source.now p) (sym c.self.view_is) c.requires in
    let none = rw (c.octets_from-octets.ensures.octets, c.clear.ensures.items, c.in_default.is) at c.in_ok-taken.ensures.ok in
    rw (← c.self.view_is) (place-last c.args.source.now _ c.take_and_lend.new.self here c.take_and_lend.ensures.ready none.same none.none)

pub overflow_add-self : goal.overflow_add-self
overflow_add-self g c =
    let here = subst (λ (p : Placed). IsAt c.args.source.now p) (sym c.self.view_is) c.requires in
    let took = rw (c.octets_from-octets.ensures.octets, c.clear.ensures.items, c.in-Some.is) at c.in_ok-taken.ensures.ok in
    let reported = rw (c.octets_from-octets.ensures.octets, c.in-Some.is) at c.in_ok-taken.ensures.report in
    omega (arith, c.octets_from-octets.ensures.few, (place-next c.args.source.now _ c.take_and_lend.new.self _ _ here c.take_and_lend.ensures.ready took c.in_ok-taken.ensures.follows reported).1)

pub overflow_add-self-2 : goal.overflow_add-self-2
overflow_add-self-2 g c =
    let here = subst (λ (p : Placed). IsAt c.args.source.now p) (sym c.self.view_is) c.requires in
    let took = rw (c.octets_from-octets.ensures.octets, c.clear.ensures.items, c.in-Some.is) at c.in_ok-taken.ensures.ok in
    let reported = rw (c.octets_from-octets.ensures.octets, c.in-Some.is) at c.in_ok-taken.ensures.report in
    let next = place-next c.args.source.now _ c.take_and_lend.new.self _ _ here c.take_and_lend.ensures.ready took c.in_ok-taken.ensures.follows reported in
    omega (arith, c.octets_from-octets.ensures.few, next.1, next.0.place.counted)

pub overflow_add-self-3 : goal.overflow_add-self-3
overflow_add-self-3 g c =
    let here = subst (λ (p : Placed). IsAt c.args.source.now p) (sym c.self.view_is) c.requires in
    let took = rw (c.octets_from-octets.ensures.octets, c.clear.ensures.items, c.in-Some.is) at c.in_ok-taken.ensures.ok in
    let reported = rw (c.octets_from-octets.ensures.octets, c.in-Some.is) at c.in_ok-taken.ensures.report in
    let next = place-next c.args.source.now _ c.take_and_lend.new.self _ _ here c.take_and_lend.ensures.ready took c.in_ok-taken.ensures.follows reported in
    omega (arith, c.octets_from-octets.ensures.few, next.1, next.0.place.counted, here.few)

pub returns-clause-advances : goal.returns-clause-advances
returns-clause-advances g c =
    let here = subst (λ (p : Placed). IsAt c.args.source.now p) (sym c.self.view_is) c.requires in
    let took = rw (c.octets_from-octets.ensures.octets, c.clear.ensures.items, c.in-Some.is) at c.in_ok-taken.ensures.ok in
    let reported = rw (c.octets_from-octets.ensures.octets, c.in-Some.is) at c.in_ok-taken.ensures.report in
    rw (← c.self.view_is, c.of-self-inside.ensures, c.swap.ensures.x_after) (place-next c.args.source.now _ c.take_and_lend.new.self _ _ here c.take_and_lend.ensures.ready took c.in_ok-taken.ensures.follows reported).0
