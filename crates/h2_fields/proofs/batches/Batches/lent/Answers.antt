use Rattle.std.proofs.Common.{◌≡◌, ◌+◌, ◌-◌, List, get_or, ap, ◌∙◌, arith}
use Rattle.std.specs.Prelude.{slice_get}
use Rattle.h2_spec.specs.Hpack.Field.{Field}
use Rattle.h2_fields.specs.Batches.{FieldsFrom, before, fields_in}
use Rattle.h2_fields.proofs.BatchLaws.{last-before}
use Rattle.h2_fields.proofs.batches.Batches.lent.Goals as goal

pub overflow_sub-before : goal.overflow_sub-before
overflow_sub-before g c =
    let bs = c.self.inside.batches.items in
    let bound = c.args.place + 1 in
    let found = last-before bound 0 bs c.self.invariant.0 (omega arith) (omega (arith, c.if-place-self.false, c.self.invariant.1)) in
    let is = c.batches_before-before.ensures.value ∙ ap (before bound) c.as_slice.ensures.value ∙ found.before_is in
    omega (arith, is)

pub overflow_sub-place : goal.overflow_sub-place
overflow_sub-place g c =
    let bs = c.self.inside.batches.items in
    let bound = c.args.place + 1 in
    let found = last-before bound 0 bs c.self.invariant.0 (omega arith) (omega (arith, c.if-place-self.false, c.self.invariant.1)) in
    let is = c.batches_before-before.ensures.value ∙ ap (before bound) c.as_slice.ensures.value ∙ found.before_is in
    let x = c.index-shared.result.now in
    let at : c.batches_before-before.result - 1 ≡ found.index = omega (arith, is) in
    let begins = found.begins x (c.index-shared.ensures ∙ ap (λ i. get_or bs i x) at) in
    omega (arith, begins.0, ap (λ (b : FieldsFrom). b.start) c.shared.view_is)

pub returns-clause-field : goal.returns-clause-field
returns-clause-field g c =
    let bs = c.self.inside.batches.items in
    let place = c.args.place in
    let bound = place + 1 in
    let found = last-before bound 0 bs c.self.invariant.0 (omega arith) (omega (arith, c.if-place-self.false, c.self.invariant.1)) in
    let is = c.batches_before-before.ensures.value ∙ ap (before bound) c.as_slice.ensures.value ∙ found.before_is in
    let x = c.index-shared.result.now in
    let at : c.batches_before-before.result - 1 ≡ found.index = omega (arith, is) in
    let there = c.index-shared.ensures ∙ ap (λ i. get_or bs i x) at in
    let begins = found.begins x there in
    let same : place - c.shared.inside.start ≡ place - x.start = ap (λ (b : FieldsFrom). place - b.start) c.shared.view_is in
    let whole : place - 0 ≡ place = omega arith in
    c.lent.ensures.field ∙ ap (slice_get x.fields) same
    ∙ found.field x there place (omega arith) (omega arith) (omega (arith, begins.0)) (omega arith)
    ∙ ap (slice_get (fields_in bs)) whole ∙ ap (λ (fs : List Field). slice_get fs place) c.self.view_is
