use Rattle.std.proofs.Common.{arith, ◌≤◌, [], ℕ, List, length, take, drop, map, ◌∙◌, sym, ap, subst, length-take-le}
use Rattle.std.proofs.lemmas.List.{take_all}
use Rattle.std.proofs.Math.ListN.{drop_of_length-le}
use Rattle.h2_spec.specs.Hpack.Field.{Field}
use Rattle.h2_hpack_list.specs.Listed.{Listed}
use Rattle.h2_hpack_list.specs.Spans.{AreSpans, field_in}
use Rattle.h2_hpack_list.specs.declared.Span.{Span}
use Rattle.h2_hpack_list.proofs.Closing.{keeps}
use Rattle.h2_hpack_list.proofs.FieldList.truncate.Goals as goal

listed : List Field → List ℕ → Listed
listed fields next = record { fields = fields; next = next }

pub invariant_of-self : goal.invariant_of-self
invariant_of-self g c =
    let l = c.self.inside in
    let s = c.index.result.now in
    let k = keeps l.octets.items l.spans.items l.start c.args.count s c.self.invariant.0 c.self.invariant.1 (omega arith) c.index.ensures in
    let within : s.start ≤ length l.octets.items = omega (arith, k.within, c.self.invariant.0) in
    (omega (arith, ap length c.truncate.ensures.items, length-take-le s.start l.octets.items within), subst (λ (spans : List Span). AreSpans 0 spans s.start) (sym c.truncate-then-count-len.ensures.items) k.before)

pub returns-then-count-len : goal.returns-then-count-len
unfolding listed
returns-then-count-len g c =
    let l = c.self.inside in
    let s = c.index.result.now in
    let k = keeps l.octets.items l.spans.items l.start c.args.count s c.self.invariant.0 c.self.invariant.1 (omega arith) c.index.ensures in
    let within : s.start ≤ length l.octets.items = omega (arith, k.within, c.self.invariant.0) in
    let first = take s.start l.octets.items in
    let count = length-take-le s.start l.octets.items within in
    ap (λ (o : List ℕ). listed (map (field_in (take s.start o)) c.truncate-then-count-len.new.self.items) (drop s.start o)) c.truncate.ensures.items
    ∙ ap (λ (spans : List Span). listed (map (field_in (take s.start first)) spans) (drop s.start first)) c.truncate-then-count-len.ensures.items
    ∙ ap (λ (o : List ℕ). listed (map (field_in o) (take c.args.count l.spans.items)) (drop s.start first)) (take_all s.start first (omega (arith, count)))
    ∙ ap (λ (fs : List Field). listed fs (drop s.start first)) k.fields
    ∙ ap (λ (n : List ℕ). listed (take c.args.count (map (field_in (take l.start l.octets.items)) l.spans.items)) n) (drop_of_length-le first (omega (arith, count)))
    ∙ ap (λ (o : Listed). listed (take c.args.count o.fields) []) c.self.view_is
