use Rattle.std.proofs.Common.{ap, append-nil, append_assoc, arith, length, ◌∙◌, ◌++◌, sym}
use Rattle.std.proofs.lemmas.Result.{IfOk-from_err}
use Rattle.h2_streams.specs.Rebuilt.{if_live, live_at}
use Rattle.h2_streams.proofs.sharing.rebuilt.live_records.Goals as goal

pub returns-in_err-list : goal.returns-in_err-list
returns-in_err-list g c = IfOk-from_err c.from_residual.result _ c.from_residual.ensures.0

pub loop-place-init : goal.loop-place-init
loop-place-init g c =
    let none = c.in_ok-list.ensures.items in
    let places = c.into_iter-place-iterator.ensures.into_iter_gives ∙ c.values-place-items.ensures.rest in
    record {
      items = λ k. none k ++ live_at c.args.records.now (places k);
      len = omega (arith, ap length none, ap length c.into_iter-place-iterator.ensures.into_iter_gives, c.values-place-items.ensures.len);
      capacity = omega (arith, c.in_ok-list.ensures.capacity, c.len.ensures.len);
    }

pub append_live-requires : goal.append_live-requires
append_live-requires g c = omega (arith, ap length c.in-Some.ensures.steps, c.loop-place.invariant.len, c.loop-place.invariant.capacity)

pub loop-place-preserved : goal.loop-place-preserved
loop-place-preserved g c =
    let rs = c.args.records.now in
    let old = c.loop-place.list.items in
    let rest = live_at rs c.next.new.self in
    let one = c.append_live.ensures.items ∙ ap (λ o. old ++ if_live o) c.record_at.ensures in
    record {
      items = ap (λ l. l ++ rest) one ∙ append_assoc old _ rest ∙ ap (λ ps. old ++ live_at rs ps) (sym c.in-Some.ensures.steps) ∙ c.loop-place.invariant.items;
      len = omega (arith, c.append_live.ensures.len, ap length c.in-Some.ensures.steps, c.loop-place.invariant.len);
      capacity = omega (arith, c.append_live.ensures.capacity, c.loop-place.invariant.capacity);
    }

pub returns : goal.returns
returns g c =
    let old = c.loop-place.list.items in
    sym (append-nil old) ∙ ap (λ ps. old ++ live_at c.args.records.now ps) (sym c.in-None.ensures.steps.0) ∙ c.loop-place.invariant.items
