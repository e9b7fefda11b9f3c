use Rattle.std.proofs.Common.{◌≡◌, ◌∷◌, ◌++◌, [], ℕ, List, length, take, sym, subst, ap, ◌∙◌, arith, length-append}
use Rattle.std.proofs.lemmas.List.{take_all}
use Rattle.h2_spec.specs.Hpack.Field.{Field}
use Rattle.h2_fields.specs.Batches.{AreBatches, FieldsFrom, fields_in}
use Rattle.h2_fields.proofs.BatchLaws.{push-batch}
use Rattle.h2_fields.proofs.batches.Batches.push.Goals as goal

last : ℕ → List Field → FieldsFrom
last start fields = record { start = start; fields = fields }

pub invariant_of-self-in-Ok : goal.invariant_of-self-in-Ok
unfolding last
invariant_of-self-in-Ok g c =
    let bs = c.self.inside.batches.items in
    let value = c.in-Ok.ensures.ok ∙ c.in_ok-fields.ensures.same in
    let count = c.len-count.ensures in
    let whole : take c.len-count.result c.in-Ok.batch.value ≡ c.args.list.now.fields = take_all c.len-count.result c.in-Ok.batch.value (omega (arith, count, ap length value)) ∙ value in
    let b = last c.self.inside.count (take c.len-count.result c.in-Ok.batch.value) in
    let items : c.push_reserved.new.self.items ≡ bs ++ b ∷ [] = c.push_reserved.ensures.items ∙ ap (λ xs. xs ++ b ∷ []) c.reserve.ensures.items in
    let more = push-batch 0 bs b c.self.invariant.0 (omega (arith, c.self.invariant.1)) in
    let all = ap (λ xs. length (fields_in xs)) items ∙ ap length more.1 ∙ length-append (fields_in bs) b.fields in (
      subst (λ xs. AreBatches 0 xs) (sym items) more.0,
      omega (arith, all, count, ap length whole, c.self.invariant.1),
      omega (arith, c.if-count-self.false, c.self.invariant.2),
    )

pub returns-in-Ok-clause-ok : goal.returns-in-Ok-clause-ok
unfolding last
returns-in-Ok-clause-ok g c =
    let bs = c.self.inside.batches.items in
    let value = c.in-Ok.ensures.ok ∙ c.in_ok-fields.ensures.same in
    let count = c.len-count.ensures in
    let whole : take c.len-count.result c.in-Ok.batch.value ≡ c.args.list.now.fields = take_all c.len-count.result c.in-Ok.batch.value (omega (arith, count, ap length value)) ∙ value in
    let b = last c.self.inside.count (take c.len-count.result c.in-Ok.batch.value) in
    let items : c.push_reserved.new.self.items ≡ bs ++ b ∷ [] = c.push_reserved.ensures.items ∙ ap (λ xs. xs ++ b ∷ []) c.reserve.ensures.items in
    let more = push-batch 0 bs b c.self.invariant.0 (omega (arith, c.self.invariant.1)) in
    ap fields_in items ∙ more.1 ∙ ap (λ (fs : List Field). fs ++ b.fields) c.self.view_is ∙ ap (λ (fs : List Field). c.args.self.now ++ fs) whole
