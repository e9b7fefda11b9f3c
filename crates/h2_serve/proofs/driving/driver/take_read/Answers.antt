use Rattle.std.proofs.Common.{◌≡◌, ◌∙◌, ◌+◌, ◌++◌, ℕ, List, [], true, false, ap, arith, drop, length, length-drop, subst, sym, take}
use Rattle.std.proofs.lemmas.List.{take-append-drop}
use Rattle.std.proofs.lemmas.Result.{MatchResult-from_err, err_from_is_err_and}
use Rattle.std.proofs.Math.Seq.{take-add, take-length}
use Rattle.h2_conn.specs.Connection.{Connection}
use Rattle.h2_conn.specs.Runs.{Fed, Halts}
use Rattle.h2_serve.proofs.Exchanges.{fed-none}
use Rattle.h2_serve.proofs.Halting.{fed-halts, fed-more, halts-more}
use Rattle.h2_serve.proofs.driving.driver.take_read.Goals as goal

-- a portion of the octets from a place on
portion-is : (octets rest piece : List ℕ) (at n : ℕ) → rest ≡ drop at octets → piece ≡ take n rest → take at octets ++ piece ≡ take (at + n) octets
portion-is octets rest piece at n r p = ap (λ (xs : List ℕ). take at octets ++ xs) (p ∙ ap (take n) r) ∙ sym (take-add at n octets)

-- all of them, where the place is their end
all-taken : (octets : List ℕ) (at : ℕ) → at ≡ length octets → take at octets ≡ octets
all-taken octets at e = ap (λ (n : ℕ). take n octets) e ∙ take-length octets

pub loop-at-init : goal.loop-at-init
loop-at-init g c =
    let same = c.begin_read.ensures.same in
    record {
      within = omega arith;
      fed = subst (λ (d : Connection). Fed (g.D.Driven.connection c.args.driven.now) [] (g.O.Pending.pending c.args.out.now) d (g.O.Pending.pending c.args.out.now)) (sym same)
          (fed-none (g.D.Driven.connection c.args.driven.now) (g.O.Pending.pending c.args.out.now) c.requires.no_item);
      going = ap (λ (d : Connection). d.failed) same ∙ c.requires.going;
      ready = c.begin_read.ensures.ready;
      passes = c.begin_read.ensures.passes;
    }

pub loop-at-preserved : goal.loop-at-preserved
loop-at-preserved g c =
    let i = c.loop-at.invariant in
    let rest = c.octets_from-rest.result.now in
    let piece = c.octets_up_to.result.now in
    let joined = portion-is c.args.octets.now rest piece c.loop-at.at c.portion-count.result c.octets_from-rest.ensures c.octets_up_to.ensures in
    let fed = c.in_ok-take_octets.ensures.ok in
    record {
      within = omega (arith, i.within, c.portion-count.ensures.within, ap length c.octets_from-rest.ensures, length-drop c.loop-at.at c.args.octets.now);
      fed = subst (λ (xs : List ℕ). Fed (g.D.Driven.connection c.args.driven.now) xs (g.O.Pending.pending c.args.out.now) (g.D.Driven.connection c.take_octets.new.self) (g.O.Pending.pending c.take_octets.new.out)) joined
          (fed-more _ _ _ (take c.loop-at.at c.args.octets.now) piece _ _ _ i.fed fed);
      going = ap (λ (d : Connection). d.failed) fed.1.after;
      ready = c.take_octets.ensures.ready;
      passes = subst (λ (xs : List ℕ). g.D.Driven.passes false c.args.driven.now xs c.take_octets.new.self) joined
          (g.met.D.Driven.passes_more _ _ _ _ (take c.loop-at.at c.args.octets.now) piece i.passes c.in_ok-take_octets.ensures.passes);
    }

pub loop-at-smaller : goal.loop-at-smaller
loop-at-smaller g c = omega (arith, c.loop-at.invariant.within, c.portion-count.ensures.some, c.portion-count.ensures.within, ap length c.octets_from-rest.ensures, length-drop c.loop-at.at c.args.octets.now)

pub overflow_add-at : goal.overflow_add-at
overflow_add-at g c = omega (arith, c.loop-at.invariant.within, c.portion-count.ensures.within, ap length c.octets_from-rest.ensures, length-drop c.loop-at.at c.args.octets.now)

pub portion-count-requires : goal.portion-count-requires
portion-count-requires g c = omega (arith, c.loop-at-test.true, ap length c.octets_from-rest.ensures, length-drop c.loop-at.at c.args.octets.now)

pub returns-clause-ok : goal.returns-clause-ok
returns-clause-ok g c =
    let i = c.loop-at.invariant in
    let all = all-taken c.args.octets.now c.loop-at.at (omega (arith, i.within, c.loop-at-test.false)) in
    subst (λ (xs : List ℕ). Fed (g.D.Driven.connection c.args.driven.now) xs (g.O.Pending.pending c.args.out.now) (g.D.Driven.connection c.loop-at.driven) (g.O.Pending.pending c.loop-at.out)) all i.fed

pub returns-clause-passes : goal.returns-clause-passes
returns-clause-passes g c =
    let i = c.loop-at.invariant in
    let all = all-taken c.args.octets.now c.loop-at.at (omega (arith, i.within, c.loop-at-test.false)) in
    subst (λ (xs : List ℕ). g.D.Driven.passes false c.args.driven.now xs c.loop-at.driven) all i.passes

pub returns-in_err-take_octets-clause-no_memory : goal.returns-in_err-take_octets-clause-no_memory
returns-in_err-take_octets-clause-no_memory g c =
    let octets = c.args.octets.now in
    let i = c.loop-at.invariant in
    let end = c.loop-at.at + c.portion-count.result in
    let joined = portion-is octets c.octets_from-rest.result.now c.octets_up_to.result.now c.loop-at.at c.portion-count.result c.octets_from-rest.ensures c.octets_up_to.ensures in
    let here = fed-halts _ _ _ (take c.loop-at.at octets) c.octets_up_to.result.now _ _ _ i.fed c.in_err-take_octets.ensures.no_memory in
    MatchResult-from_err c.from_residual.result _ _ c.from_residual.ensures.0
    (λ _. subst (λ (xs : List ℕ). Halts (g.D.Driven.connection c.args.driven.now) xs (g.O.Pending.pending c.args.out.now) (g.D.Driven.connection c.take_octets.new.self) (g.O.Pending.pending c.take_octets.new.out))
    (ap (λ (xs : List ℕ). xs ++ drop end octets) joined ∙ take-append-drop end octets)
    (halts-more _ _ (take c.loop-at.at octets ++ c.octets_up_to.result.now) (drop end octets) _ _ here))

pub returns-in_err-take_octets-clause-passes : goal.returns-in_err-take_octets-clause-passes
returns-in_err-take_octets-clause-passes g c =
    let octets = c.args.octets.now in
    let i = c.loop-at.invariant in
    let end = c.loop-at.at + c.portion-count.result in
    let joined = portion-is octets c.octets_from-rest.result.now c.octets_up_to.result.now c.loop-at.at c.portion-count.result c.octets_from-rest.ensures c.octets_up_to.ensures in
    let here = g.met.D.Driven.passes_more _ _ _ _ (take c.loop-at.at octets) c.octets_up_to.result.now i.passes c.in_err-take_octets.ensures.passes in
    let p = err_from_is_err_and c.from_residual.result c.from_residual.ensures.1 in
    rw p.1
    (subst (λ (xs : List ℕ). g.D.Driven.passes true c.args.driven.now xs c.take_octets.new.self)
    (ap (λ (xs : List ℕ). xs ++ drop end octets) joined ∙ take-append-drop end octets)
    (g.met.D.Driven.passes_cut _ _ (take c.loop-at.at octets ++ c.octets_up_to.result.now) (drop end octets) here))
