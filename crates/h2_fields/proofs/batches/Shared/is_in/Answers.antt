use Rattle.std.proofs.Common.{◌≡◌, length, drop, ap, ◌∙◌, sym, arith, length-take-le}
use Rattle.h2_fields.specs.Batches.{FieldsFrom}
use Rattle.h2_hpack_list.proofs.ListParts.{get-rest, same-next}
use Rattle.h2_fields.proofs.batches.Shared.is_in.Goals as goal

pub loop-place-preserved : goal.loop-place-preserved
loop-place-preserved g c =
    let s = c.self.inside in
    let xs = c.args.self.now.fields in
    let ys = drop c.args.from c.args.list.now.fields in
    let place = c.loop-place.place in
    let count : length xs ≡ s.count = ap (λ (x : FieldsFrom). length x.fields) (sym c.self.view_is) ∙ length-take-le s.count s.batch.value c.self.invariant in
    let next = sym c.get.ensures ∙ c.is_same.ensures c.if-not-is_same.false ∙ c.get-in-loop-place.ensures ∙ sym (get-rest c.args.from place c.args.list.now.fields) in
    record { same = same-next place xs ys (omega (arith, count, c.loop-place-test.true)) c.loop-place.invariant.same next }
