use Rattle.std.proofs.Common.{◌≡◌, ◌∙◌, ap, arith, refl, subst, sym}
use Rattle.std.proofs.lemmas.Result.{IfOk-from_err}
use Rattle.std.specs.Map.{values_of}
use Rattle.h2_streams.specs.Kept.{Rise, entries_of, ids_of, is_ready, lives, places_of}
use Rattle.h2_streams.proofs.IdsLaws.{idle-ready}
use Rattle.h2_streams.proofs.JoinedEntries.{own-entries}
use Rattle.h2_streams.proofs.LiveLaws.{entered-places, ids-live, kept-anew}
use Rattle.h2_streams.proofs.PlaceLaws.{rise}
use Rattle.h2_streams.proofs.own.OwnRecords.of.Goals as goal

pub enter_each-requires-clause-rising : goal.enter_each-requires-clause-rising
enter_each-requires-clause-rising g c = subst (Rise 0) (sym c.as_slice-2.ensures.value) (rise 0 c.args.last c.args.records.items c.requires)

pub enter_each-requires-clause-order : goal.enter_each-requires-clause-order
enter_each-requires-clause-order g c = subst (Rise 0) (sym c.as_slice-3.ensures.value) (rise 0 c.args.last c.args.records.items c.requires)

pub invariant_of-result : goal.invariant_of-result
invariant_of-result g c =
    let rs = c.args.records.items in
    let order = rise 0 c.args.last rs c.requires in
    let live : c.enter_each.new.live.entries ≡ entries_of lives rs = (rw (c.as_slice-2.ensures.value, c.as_slice-3.ensures.value) at c.enter_each.ensures) ∙ own-entries rs order in
    let places : values_of c.enter_each.new.live.entries ≡ places_of lives rs = ap values_of live ∙ entered-places lives rs in
    let ready : c.list_ready.new.ready.items ≡ ids_of is_ready rs = (rw (c.as_slice-4.ensures.value, places) at c.list_ready.ensures.items) ∙ ids-live lives is_ready idle-ready rs in
    rw ready (kept-anew c.args.last rs c.enter_each.new.live.entries c.requires live, omega (arith, c.len.ensures.len, c.list_ready.ensures.capacity, c.in_ok-ready.ensures.capacity))

pub returns-in_err-live : goal.returns-in_err-live
returns-in_err-live g c = IfOk-from_err c.from_residual.result _ c.from_residual.ensures.0

pub returns-in_err-ready : goal.returns-in_err-ready
returns-in_err-ready g c = IfOk-from_err c.from_residual-in_err-ready.result _ c.from_residual-in_err-ready.ensures.0

pub enter_each-requires-clause-empty : goal.enter_each-requires-clause-empty
enter_each-requires-clause-empty g c = c.in_ok-live.ensures.empty

pub list_ready-requires : goal.list_ready-requires
list_ready-requires g c = omega (arith, c.len.ensures.len, c.in_ok-ready.ensures.capacity)

pub returns : goal.returns
returns g c = refl
