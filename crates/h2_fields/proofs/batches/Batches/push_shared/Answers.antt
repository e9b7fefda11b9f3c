use Rattle.std.proofs.Common.{◌≡◌, ◌∷◌, ◌++◌, [], ℕ, List, length, take, sym, subst, ap, ◌∙◌, arith, length-append, length-take-le}
use Rattle.h2_spec.specs.Hpack.Field.{Field}
use Rattle.h2_fields.specs.Batches.{AreBatches, FieldsFrom, fields_in}
use Rattle.h2_fields.proofs.BatchLaws.{push-batch}
use Rattle.h2_fields.proofs.batches.Batches.push_shared.Goals as goal

last : ℕ → List Field → FieldsFrom
last start fields = record { start = start; fields = fields }

pub invariant_of-self-2 : goal.invariant_of-self-2
unfolding last
invariant_of-self-2 g c =
    let bs = c.self.inside.batches.items in
    let s = c.shared.inside in
    let b = last c.self.inside.count (take s.count c.in_ok-batch.batch.value) in
    let same : c.in_ok-batch.batch.value ≡ s.batch.value = c.in_ok-batch.ensures.cases in
    let items : c.push.new.self.items ≡ bs ++ b ∷ [] = c.in_ok-push.ensures.items in
    let more = push-batch 0 bs b c.self.invariant.0 (omega (arith, c.self.invariant.1)) in
    let count = ap (λ (v : List Field). length (take s.count v)) same ∙ length-take-le s.count s.batch.value c.shared.invariant in
    let all = ap (λ xs. length (fields_in xs)) items ∙ ap length more.1 ∙ length-append (fields_in bs) b.fields in (
      subst (λ xs. AreBatches 0 xs) (sym items) more.0,
      omega (arith, all, count, c.self.invariant.1),
      omega (arith, c.if-count-self.false, c.self.invariant.2),
    )

pub returns-clause-ok : goal.returns-clause-ok
unfolding last
returns-clause-ok g c =
    let bs = c.self.inside.batches.items in
    let s = c.shared.inside in
    let b = last c.self.inside.count (take s.count c.in_ok-batch.batch.value) in
    let same : c.in_ok-batch.batch.value ≡ s.batch.value = c.in_ok-batch.ensures.cases in
    let items : c.push.new.self.items ≡ bs ++ b ∷ [] = c.in_ok-push.ensures.items in
    let more = push-batch 0 bs b c.self.invariant.0 (omega (arith, c.self.invariant.1)) in
    let fields = ap (take s.count) same ∙ ap (λ (x : FieldsFrom). x.fields) c.shared.view_is in
    ap fields_in items ∙ more.1 ∙ ap (λ (fs : List Field). fs ++ b.fields) c.self.view_is ∙ ap (λ (fs : List Field). c.args.self.now ++ fs) fields
