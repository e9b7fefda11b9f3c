use Rattle.std.proofs.Common.{◌≡◌, ◌∙◌, ◌≤◌, List, ap, length, subst, sym}
use Rattle.std.proofs.lemmas.List.Elements.{same_from_all_zip}
use Rattle.std.proofs.lemmas.Result.{IfOk-from_err}
use Rattle.h2_fields.specs.Batches.{AreBatches, FieldsFrom, fields_in}
use Rattle.h2_fields.proofs.batches.Batches.try_clone.Goals as goal

pub returns-in_err-batches : goal.returns-in_err-batches
returns-in_err-batches g c = IfOk-from_err c.from_residual.result _ c.from_residual.ensures.0

pub invariant_of-result : goal.invariant_of-result
invariant_of-result g c =
    let d = c.self.inside in
    let same = same_from_all_zip _ d.batches.items c.in_ok-batches.batches.items c.in_ok-batches.ensures.cases.0 (λ x y e. e) in
    subst (λ (bs : List FieldsFrom). AreBatches 0 bs × (d.count ≡ length (fields_in bs)) × (d.count ≤ 4294967295)) (sym same) c.self.invariant

pub returns : goal.returns
returns g c =
    let same = same_from_all_zip _ c.self.inside.batches.items c.in_ok-batches.batches.items c.in_ok-batches.ensures.cases.0 (λ x y e. e) in
    ap fields_in same ∙ c.self.view_is
