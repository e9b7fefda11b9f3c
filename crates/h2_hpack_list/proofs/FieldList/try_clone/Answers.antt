use Rattle.std.proofs.Common.{◌≤◌, ℕ, List, ap, ◌∙◌, sym, subst, take, drop, map, length}
use Rattle.std.proofs.lemmas.Result.{IfOk-from_err}
use Rattle.std.proofs.lemmas.List.Elements.{same_from_all_zip}
use Rattle.h2_spec.specs.Hpack.Field.{Field}
use Rattle.h2_hpack_list.specs.Listed.{Listed}
use Rattle.h2_hpack_list.specs.Spans.{AreSpans, field_in}
use Rattle.h2_hpack_list.specs.declared.Span.{Span}
use Rattle.h2_hpack_list.proofs.FieldList.try_clone.Goals as goal

listed : List Field → List ℕ → Listed
listed fields next = record { fields = fields; next = next }

pub returns-in_err-clone : goal.returns-in_err-clone
returns-in_err-clone g c = record { same = IfOk-from_err c.from_residual.result _ c.from_residual.ensures.0 }

pub returns-in_err-clone-2 : goal.returns-in_err-clone-2
returns-in_err-clone-2 g c = record { same = IfOk-from_err c.from_residual-in_err-clone-2.result _ c.from_residual-in_err-clone-2.ensures.0 }

pub invariant_of-result : goal.invariant_of-result
invariant_of-result g c =
    let l = c.self.inside in
    let octets = same_from_all_zip _ l.octets.items c.in_ok-clone.field-0.items c.in_ok-clone.ensures.cases.0 (λ x y e. e) in
    let spans = same_from_all_zip _ l.spans.items c.in_ok-clone-2.field-0.items c.in_ok-clone-2.ensures.cases.0 (λ x y e. e) in
    (subst (λ (o : List ℕ). l.start ≤ length o) (sym octets) c.self.invariant.0, subst (λ (s : List Span). AreSpans 0 s l.start) (sym spans) c.self.invariant.1)

pub returns : goal.returns
unfolding listed
returns g c =
    let l = c.self.inside in
    let octets = same_from_all_zip _ l.octets.items c.in_ok-clone.field-0.items c.in_ok-clone.ensures.cases.0 (λ x y e. e) in
    let spans = same_from_all_zip _ l.spans.items c.in_ok-clone-2.field-0.items c.in_ok-clone-2.ensures.cases.0 (λ x y e. e) in
    let is_octets = ap (λ (o : List ℕ). listed (map (field_in (take l.start o)) c.in_ok-clone-2.field-0.items) (drop l.start o)) octets in
    let is_spans = ap (λ (s : List Span). listed (map (field_in (take l.start l.octets.items)) s) (drop l.start l.octets.items)) spans in
    record { same = is_octets ∙ is_spans ∙ c.self.view_is }
