use Rattle.std.proofs.Common.{List, ℕ, ◌∙◌, sym, subst}
use Rattle.std.proofs.lemmas.Result.{IfOk-from_err}
use Rattle.std.proofs.lemmas.List.Elements.{same_from_all_zip}
use Rattle.h2_hpack_instruction.specs.Resume.{IsRest}
use Rattle.h2_fields.proofs.rest.Rest.try_clone.Goals as goal

pub returns-in_err-clone : goal.returns-in_err-clone
returns-in_err-clone g c = record { same = IfOk-from_err c.from_residual.result _ c.from_residual.ensures.0 }

pub invariant_of-result : goal.invariant_of-result
invariant_of-result g c =
    let same = same_from_all_zip _ c.self.inside.octets.items c.in_ok-clone.field-0.items c.in_ok-clone.ensures.cases.0 (λ x y e. e) in
    subst (λ (b : List ℕ). IsRest b c.self.inside.point) (sym same) c.self.invariant

pub returns : goal.returns
returns g c =
    record { same = same_from_all_zip _ c.self.inside.octets.items c.in_ok-clone.field-0.items c.in_ok-clone.ensures.cases.0 (λ x y e. e) ∙ c.self.view_is }
