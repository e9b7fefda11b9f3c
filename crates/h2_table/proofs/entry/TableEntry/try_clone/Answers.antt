use Rattle.std.proofs.Common.{◌≡◌, ◌≤◌, ◌<◌, ◌++◌, List, ℕ, [], length, take, drop, ap, ◌∙◌, sym, subst}
use Rattle.std.proofs.lemmas.List.Elements.{same_from_all_zip}
use Rattle.std.proofs.lemmas.Result.{IfOk-from_err}
use Rattle.h2_spec.specs.Hpack.Field.{field}
use Rattle.h2_hpack_validity.specs.Mark.{mark_of}
use Rattle.h2_table.proofs.entry.TableEntry.try_clone.Goals as goal

pub returns-in_err-clone : goal.returns-in_err-clone
returns-in_err-clone g c = record { same = IfOk-from_err c.from_residual.result _ c.from_residual.ensures.0 }

pub returns-in_err-clone-2 : goal.returns-in_err-clone-2
returns-in_err-clone-2 g c = record { same = IfOk-from_err c.from_residual-in_err-clone-2.result _ c.from_residual-in_err-clone-2.ensures.0 }

pub invariant_of-result : goal.invariant_of-result
invariant_of-result g c =
    let d = c.self.inside in
    let n = d.name_len in
    let octets = same_from_all_zip _ d.octets.items c.in_ok-clone.field-0.items c.in_ok-clone.ensures.cases.0 (λ x y e. e) in
    let apart = same_from_all_zip _ d.apart.items c.in_ok-clone-2.field-0.items c.in_ok-clone-2.ensures.cases.0 (λ x y e. e) in
    let holds = λ (o a : List ℕ). (n ≤ length o) × (n < length o → a ≡ []) × (d.mark ≡ mark_of (field (take n o) (drop n o ++ a))) in
    subst (λ o. holds o c.in_ok-clone-2.field-0.items) (sym octets) (subst (holds d.octets.items) (sym apart) c.self.invariant)

pub returns : goal.returns
returns g c =
    let d = c.self.inside in
    let n = d.name_len in
    let octets = same_from_all_zip _ d.octets.items c.in_ok-clone.field-0.items c.in_ok-clone.ensures.cases.0 (λ x y e. e) in
    let apart = same_from_all_zip _ d.apart.items c.in_ok-clone-2.field-0.items c.in_ok-clone-2.ensures.cases.0 (λ x y e. e) in
    let shown = λ (o a : List ℕ). field (take n o) (drop n o ++ a) in
    record { same = ap (λ o. shown o c.in_ok-clone-2.field-0.items) octets ∙ ap (shown d.octets.items) apart ∙ c.self.view_is }
