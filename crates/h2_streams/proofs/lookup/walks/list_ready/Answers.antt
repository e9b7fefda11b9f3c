use Rattle.std.proofs.Common.{ap, append-nil, append_assoc, arith, length, ◌∙◌, ◌++◌, sym}
use Rattle.h2_streams.specs.Kept.{id_if, ids_at, is_ready}
use Rattle.h2_streams.proofs.lookup.walks.list_ready.Goals as goal

pub loop-place-init : goal.loop-place-init
loop-place-init g c =
    let none = c.clear.ensures.items in
    let places = c.into_iter-place-iterator.ensures.into_iter_gives ∙ c.values-place-items.ensures.rest in
    record {
      items = λ k. none k ++ ids_at is_ready c.args.records.now (places k);
      len = omega (arith, c.clear.ensures.len, ap length c.into_iter-place-iterator.ensures.into_iter_gives, c.values-place-items.ensures.len);
      capacity = omega (arith, c.clear.ensures.capacity);
    }

pub append_ready-requires : goal.append_ready-requires
append_ready-requires g c = omega (arith, ap length c.in-Some.ensures.steps, c.loop-place.invariant.len, c.loop-place.invariant.capacity, c.requires)

pub loop-place-preserved : goal.loop-place-preserved
loop-place-preserved g c =
    let rs = c.args.records.now in
    let old = c.loop-place.ready.items in
    let rest = ids_at is_ready rs c.next.new.self in
    let one = c.append_ready.ensures.items ∙ ap (λ o. old ++ id_if is_ready o) c.record_at.ensures in
    record {
      items = ap (λ l. l ++ rest) one ∙ append_assoc old _ rest ∙ ap (λ ps. old ++ ids_at is_ready rs ps) (sym c.in-Some.ensures.steps) ∙ c.loop-place.invariant.items;
      len = omega (arith, c.append_ready.ensures.len, ap length c.in-Some.ensures.steps, c.loop-place.invariant.len);
      capacity = omega (arith, c.append_ready.ensures.capacity, c.loop-place.invariant.capacity);
    }

pub returns : goal.returns
returns g c =
    let old = c.loop-place.ready.items in
    record {
      items = sym (append-nil old) ∙ ap (λ ps. old ++ ids_at is_ready c.args.records.now ps) (sym c.in-None.ensures.steps.0) ∙ c.loop-place.invariant.items;
      capacity = c.loop-place.invariant.capacity;
    }
