use Rattle.std.proofs.Common.{rules, ◌≡◌, ◌∙◌, ◌*◌, ◌/◌, sym, subst, refl, false, true}
use Rattle.std.specs.Prelude.{◌&&◌, nat_le, min}
use Rattle.std.proofs.lemmas.Result.{IfOk-weaker}
use Rattle.h2_debug.specs.Debugging.{Debugging}
use Rattle.h2_debug.proofs.PlaceLaws.{place-anew}
use Rattle.h2_debug.proofs.KeptLaws.{near-kept, restore-at, restore-precedes}
use Rattle.h2_debug.proofs.debugger.Debugger.start_for.Goals as goal

pub kept_at-kept-requires : goal.kept_at-kept-requires
kept_at-kept-requires g c =
    let s = c.self.inside in
    let least : c.min-index.result ≡ min c.args.target s.reached = search rules in
    let near : (nat_le s.present.position c.args.target && nat_le (min c.args.target s.reached / 64 * 64) s.present.position) ≡ false = rw (← least, ← c.position.ensures) (sym c.is_between-near.ensures ∙ c.if-near.false) in
    rw (c.as_slice.ensures.value, least) (near-kept _ _ _ _ _ _ c.args.target c.self.invariant near)

pub restore-requires : goal.restore-requires
restore-requires g c =
    let s = c.self.inside in
    let least : c.min-index.result ≡ min c.args.target s.reached = search rules in
    let there = rw (c.as_slice.ensures.value, least) at c.kept_at-kept.ensures in
    let far = rw c.in-None.is at c.self.invariant in
    restore-precedes _ s.present s.present s.kept.items s.reached s.replayed c.args.target c.kept_at-kept.result.now far there

pub restore-requires-in-Some : goal.restore-requires-in-Some
restore-requires-in-Some g c =
    let s = c.self.inside in
    let least : c.min-index.result ≡ min c.args.target s.reached = search rules in
    let there = rw (c.as_slice.ensures.value, least) at c.kept_at-kept.ensures in
    let far = rw c.in-Some.is at c.self.invariant in
    restore-precedes _ s.present c.in-Some.place s.kept.items s.reached s.replayed c.args.target c.kept_at-kept.result.now far there

pub returns-in-None-clause-place : goal.returns-in-None-clause-place
returns-in-None-clause-place g c =
    let s = c.self.inside in
    let least : c.min-index.result ≡ min c.args.target s.reached = search rules in
    let there = rw (c.as_slice.ensures.value, least) at c.kept_at-kept.ensures in
    let near : (nat_le s.present.position c.args.target && nat_le (min c.args.target s.reached / 64 * 64) s.present.position) ≡ false = rw (← least, ← c.position.ensures) (sym c.is_between-near.ensures ∙ c.if-near.false) in
    let far = rw c.in-None.is at c.self.invariant in
    rw (← c.self.view_is, near)
    (IfOk-weaker c.restore.result _ _ (λ q same. restore-at _ s.present s.present s.kept.items s.reached s.replayed c.args.target c.kept_at-kept.result.now far there q same) c.restore.ensures.restored)

pub returns-in-Some-clause-place : goal.returns-in-Some-clause-place
returns-in-Some-clause-place g c =
    let s = c.self.inside in
    let least : c.min-index.result ≡ min c.args.target s.reached = search rules in
    let there = rw (c.as_slice.ensures.value, least) at c.kept_at-kept.ensures in
    let near : (nat_le s.present.position c.args.target && nat_le (min c.args.target s.reached / 64 * 64) s.present.position) ≡ false = rw (← least, ← c.position.ensures) (sym c.is_between-near.ensures ∙ c.if-near.false) in
    let far = rw c.in-Some.is at c.self.invariant in
    rw (← c.self.view_is, near)
    (IfOk-weaker c.restore-in-Some.result _ _ (λ q same. restore-at _ s.present c.in-Some.place s.kept.items s.reached s.replayed c.args.target c.kept_at-kept.result.now far there q same) c.restore-in-Some.ensures.restored)

pub returns-in-None-clause-same : goal.returns-in-None-clause-same
returns-in-None-clause-same g c = rw c.restore.ensures.same c.self.view_is

pub returns-then-near-clause-place : goal.returns-then-near-clause-place
returns-then-near-clause-place g c =
    let least : c.min-index.result ≡ min c.args.target c.self.inside.reached = search rules in
    let near : (nat_le c.self.inside.present.position c.args.target && nat_le (min c.args.target c.self.inside.reached / 64 * 64) c.self.inside.present.position) ≡ true = rw (← least, ← c.position.ensures) (sym c.is_between-near.ensures ∙ c.if-near.true) in
    let now : (nat_le c.args.self.now.position c.args.target && nat_le (min c.args.target c.args.self.now.reached / 64 * 64) c.args.self.now.position) ≡ true = subst (λ (d : Debugging). (nat_le d.position c.args.target && nat_le (min c.args.target d.reached / 64 * 64) d.position) ≡ true) c.self.view_is near in
    rw (c.count_anew.ensures, now) (place-anew _ _ c.in_ok-place.ensures.0, c.in_ok-place.ensures.1, refl)
