use Rattle.std.proofs.Common.{◌≡◌, ◌++◌, List, length, take, drop, refl, ap, ◌∙◌, sym, arith, length-take-le}
use Rattle.h2_spec.specs.Hpack.Field.{Field}
use Rattle.h2_fields.specs.Batches.{FieldsFrom}
use Rattle.h2_fields.proofs.BatchLaws.{take-further}
use Rattle.h2_fields.proofs.batches.Batches.go_on.Goals as goal

pub overflow_add-taken : goal.overflow_add-taken
overflow_add-taken g c =
    let s = c.shared.inside in
    let fields = c.shared-item.result.fields in
    let count : length fields ≡ s.count = ap (λ (x : FieldsFrom). length x.fields) (sym c.shared.view_is) ∙ length-take-le s.count s.batch.value c.shared.invariant in
    omega (arith, count, c.if-not-is_in.ensures.few refl)

pub loop-shared-preserved : goal.loop-shared-preserved
loop-shared-preserved g c =
    let s = c.shared.inside in
    let list = c.args.list.now.fields in
    let taken = c.loop-shared.taken in
    let fields = c.shared-item.result.fields in
    let count : length fields ≡ s.count = ap (λ (x : FieldsFrom). length x.fields) (sym c.shared.view_is) ∙ length-take-le s.count s.batch.value c.shared.invariant in
    let is : fields ≡ take s.count (drop taken list) = c.if-not-is_in.ensures.same refl ∙ ap (λ n. take n (drop taken list)) count in
    record {
      within = omega (arith, count, c.if-not-is_in.ensures.within refl);
      same = c.in_ok-push_shared.ensures.ok ∙ ap (λ (fs : List Field). fs ++ fields) c.loop-shared.invariant.same ∙ take-further taken s.count c.args.self.now list fields is;
    }
