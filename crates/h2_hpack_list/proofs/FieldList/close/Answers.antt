use Rattle.std.proofs.Common.{arith, ◌+◌, ◌≤◌, ◌++◌, ◌∷◌, [], ℕ, List, length, take, drop, map, ◌∙◌, sym, ap, subst, refl, length-drop}
use Rattle.std.proofs.lemmas.Result.{IfOk-from_err, MatchResult-from_err}
use Rattle.h2_spec.specs.Hpack.Field.{Field, field}
use Rattle.h2_hpack_list.specs.Listed.{Listed}
use Rattle.h2_hpack_list.specs.Spans.{AreSpans, field_in}
use Rattle.h2_hpack_list.specs.declared.OctetRange.{OctetRange}
use Rattle.h2_hpack_list.specs.declared.Span.{Span}
use Rattle.h2_hpack_list.proofs.Closing.{adds, front-part, last-part, spans-push}
use Rattle.h2_hpack_list.proofs.FieldList.close.Goals as goal

listed : List Field → List ℕ → Listed
listed fields next = record { fields = fields; next = next }

pub invariant_of-self-2 : goal.invariant_of-self-2
invariant_of-self-2 g c =
    let l = c.self.inside in
    let split = l.start + c.args.name in
    let s : Span = record { name = record { start = l.start; end = split }; value = record { start = split; end = c.len-end.result }; start = l.start; end = c.len-end.result } in
    let seen = ap (λ (o : Listed). length o.next) c.self.view_is in
    let end = c.len-end.ensures ∙ l.octets.ok.0 in
    let value : split ≤ c.len-end.result = omega (arith, seen, c.requires.within, end, c.self.invariant.0, length-drop l.start l.octets.items) in
    let more = spans-push 0 l.spans.items l.start s c.self.invariant.1 refl (record { start = omega (arith, value); name = omega arith; name_within = value; value = value; value_within = omega arith }) in
    (omega (arith, end), subst (λ (spans : List Span). AreSpans 0 spans c.len-end.result) (sym c.in_ok-push.ensures.items) more)

pub returns-clause-ok : goal.returns-clause-ok
unfolding listed
returns-clause-ok g c =
    let l = c.self.inside in
    let split = l.start + c.args.name in
    let first : OctetRange = record { start = l.start; end = split } in
    let second : OctetRange = record { start = split; end = c.len-end.result } in
    let s : Span = record { name = first; value = second; start = l.start; end = c.len-end.result } in
    let seen = ap (λ (o : Listed). length o.next) c.self.view_is in
    let more = drop l.start l.octets.items in
    let enough : c.args.name ≤ length more = omega (arith, seen, c.requires.within) in
    let fields = map (field_in (take l.start l.octets.items)) l.spans.items ++ field (take c.args.name more) (drop c.args.name more) ∷ [] in
    let end = c.len-end.ensures ∙ l.octets.ok.0 in
    let r = adds l.octets.items l.octets.items l.spans.items s l.start (take c.args.name more) (drop c.args.name more)
    (record { held = c.self.invariant.0; within = c.self.invariant.0; same = refl }) c.self.invariant.1 end
    (front-part first l.octets.items l.start c.args.name c.self.invariant.0 refl refl enough)
    (last-part second l.octets.items l.start c.args.name c.self.invariant.0 refl end enough) in
    ap (λ (spans : List Span). listed (map (field_in (take c.len-end.result l.octets.items)) spans) (drop c.len-end.result l.octets.items)) c.in_ok-push.ensures.items
    ∙ ap (λ (fs : List Field). listed fs (drop c.len-end.result l.octets.items)) r.fields
    ∙ ap (λ (n : List ℕ). listed fields n) r.next
    ∙ ap (λ (o : Listed). listed (o.fields ++ field (take c.args.name o.next) (drop c.args.name o.next) ∷ []) []) c.self.view_is

pub invariant_of-self : goal.invariant_of-self
invariant_of-self g c =
    let l = c.self.inside in
    (c.self.invariant.0, subst (λ (spans : List Span). AreSpans 0 spans l.start) (sym c.in_err-push.ensures.items) c.self.invariant.1)

pub returns-in_err-push-clause-ok : goal.returns-in_err-push-clause-ok
returns-in_err-push-clause-ok g c = IfOk-from_err c.from_residual.result _ c.from_residual.ensures.0

pub returns-in_err-push-clause-err : goal.returns-in_err-push-clause-err
unfolding listed
returns-in_err-push-clause-err g c =
    let l = c.self.inside in
    let same = ap (λ (spans : List Span). listed (map (field_in (take l.start l.octets.items)) spans) (drop l.start l.octets.items)) c.in_err-push.ensures.items in
    MatchResult-from_err c.from_residual.result _ _ c.from_residual.ensures.0 (λ _. same ∙ c.self.view_is)
