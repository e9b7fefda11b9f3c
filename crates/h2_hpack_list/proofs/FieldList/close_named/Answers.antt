use Rattle.std.proofs.Common.{arith, ◌++◌, ◌∷◌, [], ℕ, List, take, drop, map, ◌∙◌, sym, ap, subst, refl}
use Rattle.std.proofs.lemmas.Result.{IfOk-from_err, MatchResult-from_err}
use Rattle.h2_spec.specs.Hpack.Field.{Field, field}
use Rattle.h2_hpack_list.specs.Listed.{Listed}
use Rattle.h2_hpack_list.specs.Spans.{AreSpans, IsPart, field_in}
use Rattle.h2_hpack_list.specs.declared.OctetRange.{OctetRange}
use Rattle.h2_hpack_list.specs.declared.Span.{Span}
use Rattle.h2_hpack_list.proofs.Closing.{adds, begins-more, begins-whole, last-part, looked-up, part-stays, spans-push, span-ordered, stay}
use Rattle.h2_hpack_list.proofs.FieldList.close_named.Goals as goal

listed : List Field → List ℕ → Listed
listed fields next = record { fields = fields; next = next }

pub invariant_of-self-2 : goal.invariant_of-self-2
invariant_of-self-2 g c =
    let l = c.self.inside in
    let o1 = l.octets.items in
    let o2 = c.put_part.new.octets.items in
    let last : OctetRange = record { start = l.start; end = c.len-before.result } in
    let s : Span = record { name = c.in_ok-name.name; value = last; start = l.start; end = c.len-end.result } in
    let end = c.len-end.ensures ∙ c.put_part.new.octets.ok.0 in
    let b = begins-more l.start o1 o1 o2 (begins-whole l.start o1 c.self.invariant.0) c.in_ok-name.ensures.kept in
    let name : IsPart c.in_ok-name.name o2 c.args.name.now = c.in_ok-name.ensures.ok in
    let value = part-stays last o1 o2 (drop l.start o1) (last-part last o1 l.start 0 c.self.invariant.0 (omega arith) (c.len-before.ensures ∙ l.octets.ok.0) (omega arith)) c.in_ok-name.ensures.kept in
    let more = spans-push 0 l.spans.items l.start s c.self.invariant.1 refl (span-ordered s o2 c.args.name.now (drop l.start o1) (omega (arith, b.within, end)) end name value) in
    (omega (arith, end), subst (λ (spans : List Span). AreSpans 0 spans c.len-end.result) (sym c.in_ok-push.ensures.items) more)

pub returns-clause-ok : goal.returns-clause-ok
unfolding listed
returns-clause-ok g c =
    let l = c.self.inside in
    let o1 = l.octets.items in
    let o2 = c.put_part.new.octets.items in
    let last : OctetRange = record { start = l.start; end = c.len-before.result } in
    let s : Span = record { name = c.in_ok-name.name; value = last; start = l.start; end = c.len-end.result } in
    let end = c.len-end.ensures ∙ c.put_part.new.octets.ok.0 in
    let b = begins-more l.start o1 o1 o2 (begins-whole l.start o1 c.self.invariant.0) c.in_ok-name.ensures.kept in
    let name : IsPart c.in_ok-name.name o2 c.args.name.now = c.in_ok-name.ensures.ok in
    let value = part-stays last o1 o2 (drop l.start o1) (last-part last o1 l.start 0 c.self.invariant.0 (omega arith) (c.len-before.ensures ∙ l.octets.ok.0) (omega arith)) c.in_ok-name.ensures.kept in
    let r = adds l.octets.items o2 l.spans.items s l.start c.args.name.now (drop l.start o1) b c.self.invariant.1 end name value in
    ap (λ (spans : List Span). listed (map (field_in (take c.len-end.result o2)) spans) (drop c.len-end.result o2)) c.in_ok-push.ensures.items
    ∙ ap (λ (fs : List Field). listed fs (drop c.len-end.result o2)) r.fields
    ∙ ap (λ (n : List ℕ). listed (map (field_in (take l.start l.octets.items)) l.spans.items ++ field c.args.name.now (drop l.start o1) ∷ []) n) r.next
    ∙ ap (λ (o : Listed). listed (o.fields ++ field c.args.name.now o.next ∷ []) []) c.self.view_is

pub overflow_cast-value : goal.overflow_cast-value
overflow_cast-value g c = omega (arith, c.self.invariant.0, c.len-before.ensures, c.self.inside.octets.ok.0, c.if-before-gt-MAX_OCTETS.false)

pub put_part-requires-clause-ordered : goal.put_part-requires-clause-ordered
put_part-requires-clause-ordered g c =
    let l = c.self.inside in
    (looked-up l.spans.items c.as_slice.result.now l.start c.span_at-earlier.result c.span_at-earlier.ensures c.as_slice.ensures.value c.self.invariant.1).ordered.name

pub put_part-requires-clause-within : goal.put_part-requires-clause-within
put_part-requires-clause-within g c =
    let l = c.self.inside in
    let at = looked-up l.spans.items c.as_slice.result.now l.start c.span_at-earlier.result c.span_at-earlier.ensures c.as_slice.ensures.value c.self.invariant.1 in
    omega (arith, at.within, at.ordered.name_within, c.self.invariant.0)

pub invariant_of-self : goal.invariant_of-self
invariant_of-self g c =
    let l = c.self.inside in
    let o1 = l.octets.items in
    ((begins-more l.start o1 o1 c.put_part.new.octets.items (begins-whole l.start o1 c.self.invariant.0) c.in_err-name.ensures.kept).within, c.self.invariant.1)

pub returns-in_err-name-clause-ok : goal.returns-in_err-name-clause-ok
returns-in_err-name-clause-ok g c = IfOk-from_err c.from_residual.result _ c.from_residual.ensures.0

pub returns-in_err-name-clause-err : goal.returns-in_err-name-clause-err
returns-in_err-name-clause-err g c =
    let l = c.self.inside in
    let o1 = l.octets.items in
    let o2 = c.put_part.new.octets.items in
    let b = begins-more l.start o1 o1 o2 (begins-whole l.start o1 c.self.invariant.0) c.in_err-name.ensures.kept in
    MatchResult-from_err c.from_residual.result _ _ c.from_residual.ensures.0 (λ _. stay o1 o2 l.spans.items l.start b ∙ ap (λ (o : Listed). o.fields) c.self.view_is)

pub overflow_cast-self-inside : goal.overflow_cast-self-inside
overflow_cast-self-inside g c = omega (arith, c.self.invariant.0, c.len-before.ensures, c.self.inside.octets.ok.0, c.if-before-gt-MAX_OCTETS.false)

pub overflow_cast-end : goal.overflow_cast-end
overflow_cast-end g c = omega (arith, c.len-end.ensures, c.put_part.new.octets.ok.0, c.in_ok-name.ensures.short)

pub invariant_of-self-in_err-push : goal.invariant_of-self-in_err-push
invariant_of-self-in_err-push g c =
    let l = c.self.inside in
    let o1 = l.octets.items in
    let b = begins-more l.start o1 o1 c.put_part.new.octets.items (begins-whole l.start o1 c.self.invariant.0) c.in_ok-name.ensures.kept in
    (b.within, subst (λ (spans : List Span). AreSpans 0 spans l.start) (sym c.in_err-push.ensures.items) c.self.invariant.1)

pub returns-in_err-push-clause-ok : goal.returns-in_err-push-clause-ok
returns-in_err-push-clause-ok g c = IfOk-from_err c.from_residual-in_err-push.result _ c.from_residual-in_err-push.ensures.0

pub returns-in_err-push-clause-err : goal.returns-in_err-push-clause-err
returns-in_err-push-clause-err g c =
    let l = c.self.inside in
    let o1 = l.octets.items in
    let o2 = c.put_part.new.octets.items in
    let b = begins-more l.start o1 o1 o2 (begins-whole l.start o1 c.self.invariant.0) c.in_ok-name.ensures.kept in
    let same = ap (λ (spans : List Span). map (field_in (take l.start o2)) spans) c.in_err-push.ensures.items in
    MatchResult-from_err c.from_residual-in_err-push.result _ _ c.from_residual-in_err-push.ensures.0 (λ _. same ∙ stay o1 o2 l.spans.items l.start b ∙ ap (λ (o : Listed). o.fields) c.self.view_is)
