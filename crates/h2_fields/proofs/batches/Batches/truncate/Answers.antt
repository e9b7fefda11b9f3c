use Rattle.std.proofs.Common.{◌≡◌, ◌-◌, ◌<◌, suc, ℕ, List, [], take, length, get_or, sym, subst, ap, ◌∙◌, arith, length-take-le}
use Rattle.std.specs.Prelude.{slice_set}
use Rattle.h2_spec.specs.Hpack.Field.{Field}
use Rattle.h2_fields.specs.Batches.{AreBatches, FieldsFrom, before, fields_in}
use Rattle.h2_fields.proofs.BatchLaws.{begun-before, get_or-first, last-before, not-begun}
use Rattle.h2_fields.proofs.batches.Batches.truncate.Goals as goal

-- batches that are these fields
record Cut (bs : List FieldsFrom) (fields : List Field) : Type 0 where
  pub are : AreBatches 0 bs
  pub is : fields_in bs ≡ fields

-- the batches before a number of fields, of which the last is cut there
is-cut : (bs now : List FieldsFrom) (count k : ℕ) (x after : FieldsFrom) → AreBatches 0 bs → count < length (fields_in bs) → 0 < k → k ≡ before count bs → now ≡ take k bs → x ≡ get_or now (k - 1) x →
    after ≡ record x { fields = take (count - x.start) x.fields } → Cut (slice_set now (k - 1) after) (take count (fields_in bs))
is-cut bs now count k x after h lt some e f there a =
    let begun = begun-before count 0 bs h (omega (arith, some, e)) in
    let found = last-before count 0 bs h begun (omega (arith, lt)) in
    let is : k ≡ suc found.index = e ∙ found.before_is in
    let at : k - 1 ≡ found.index = omega (arith, is) in
    let first : now ≡ take (suc found.index) bs = f ∙ ap (λ n. take n bs) is in
    let here : x ≡ get_or bs found.index x = there ∙ ap (λ i. get_or now i x) at ∙ ap (λ xs. get_or xs found.index x) first ∙ get_or-first bs found.index x in
    let result = found.cut x here after a in
    let set : slice_set now (k - 1) after ≡ slice_set (take (suc found.index) bs) found.index after = ap (λ i. slice_set now i after) at ∙ ap (λ xs. slice_set xs found.index after) first in
    let whole : count - 0 ≡ count = omega arith in
    record {
      are = subst (λ xs. AreBatches 0 xs) (sym set) result.0;
      is = ap fields_in set ∙ result.1 ∙ ap (λ n. take n (fields_in bs)) whole;
    }

-- none of them
none : (bs now : List FieldsFrom) (count k : ℕ) → AreBatches 0 bs → count < length (fields_in bs) → k ≡ 0 → k ≡ before count bs → now ≡ take k bs → Cut now (take count (fields_in bs))
none bs now count k h lt z e f =
    let zero : count ≡ 0 = omega (arith, not-begun count 0 bs h (sym e ∙ z) (omega (arith, lt))) in
    let empty : now ≡ [] = f ∙ ap (λ n. take n bs) z in
    record {
      are = subst (λ xs. AreBatches 0 xs) (sym empty) tt;
      is = ap fields_in empty ∙ ap (λ n. take n (fields_in bs)) (sym zero);
    }

pub invariant_of-self : goal.invariant_of-self
invariant_of-self g c =
    let bs = c.self.inside.batches.items in
    let count = c.args.count in
    let k = c.batches_before-before.result in
    let short : count < length (fields_in bs) = omega (arith, c.if-count-self.false, c.self.invariant.1) in
    let is = c.batches_before-before.ensures.value ∙ ap (before count) c.as_slice.ensures.value in
    let r = is-cut bs c.truncate.new.self.items count k c.index_mut.result.now c.cut.new.self c.self.invariant.0 short (omega (arith, c.if-before-gt0.true)) is c.truncate.ensures.items c.index_mut.ensures.value c.cut.ensures in
    (r.are, omega (arith, ap length r.is, length-take-le count (fields_in bs) (omega (arith, short))), omega (arith, c.if-count-self.false, c.self.invariant.2))

pub returns-then-before-gt0 : goal.returns-then-before-gt0
returns-then-before-gt0 g c =
    let bs = c.self.inside.batches.items in
    let count = c.args.count in
    let k = c.batches_before-before.result in
    let short : count < length (fields_in bs) = omega (arith, c.if-count-self.false, c.self.invariant.1) in
    let is = c.batches_before-before.ensures.value ∙ ap (before count) c.as_slice.ensures.value in
    let r = is-cut bs c.truncate.new.self.items count k c.index_mut.result.now c.cut.new.self c.self.invariant.0 short (omega (arith, c.if-before-gt0.true)) is c.truncate.ensures.items c.index_mut.ensures.value c.cut.ensures in
    r.is ∙ ap (λ (fs : List Field). take count fs) c.self.view_is

pub invariant_of-self-else-before-gt0 : goal.invariant_of-self-else-before-gt0
invariant_of-self-else-before-gt0 g c =
    let bs = c.self.inside.batches.items in
    let count = c.args.count in
    let k = c.batches_before-before.result in
    let short : count < length (fields_in bs) = omega (arith, c.if-count-self.false, c.self.invariant.1) in
    let is = c.batches_before-before.ensures.value ∙ ap (before count) c.as_slice.ensures.value in
    let r = none bs c.truncate.new.self.items count k c.self.invariant.0 short (omega (arith, c.if-before-gt0.false)) is c.truncate.ensures.items in
    (r.are, omega (arith, ap length r.is, length-take-le count (fields_in bs) (omega (arith, short))), omega (arith, c.if-count-self.false, c.self.invariant.2))

pub returns-else-before-gt0 : goal.returns-else-before-gt0
returns-else-before-gt0 g c =
    let bs = c.self.inside.batches.items in
    let count = c.args.count in
    let k = c.batches_before-before.result in
    let short : count < length (fields_in bs) = omega (arith, c.if-count-self.false, c.self.invariant.1) in
    let is = c.batches_before-before.ensures.value ∙ ap (before count) c.as_slice.ensures.value in
    let r = none bs c.truncate.new.self.items count k c.self.invariant.0 short (omega (arith, c.if-before-gt0.false)) is c.truncate.ensures.items in
    r.is ∙ ap (λ (fs : List Field). take count fs) c.self.view_is
