use Rattle.std.proofs.Common.{arith, ◌≡◌, ◌≤◌, ℕ, List, ◌++◌, length, take, drop, map, ap, ◌∙◌, OnOk, OnErr, Result, Ok, Err}
use Rattle.std.proofs.lemmas.List.{length-append, drop-append-le, take-append-le}
use Rattle.std.proofs.lemmas.Result.{on_ok_weaker, on_err_weaker}
use Rattle.h2_spec.specs.Hpack.Field.{Field}
use Rattle.h2_spec.specs.Hpack.Huffman.{Text, huffman_text}
use Rattle.h2_hpack_list.specs.Listed.{Listed}
use Rattle.h2_hpack_list.specs.declared.Span.{Span}
use Rattle.h2_hpack_list.specs.Spans.{field_in}
use Rattle.h2_hpack_list.proofs.FieldList.put_huffman.Goals as goal

abbrev listed : List Field → List ℕ → Listed
listed fields next = record { fields = fields; next = next }

-- octets added at the end are added to the next field
longer : (octets text now : List ℕ) (spans : List Span) (start : ℕ) (old : Listed) → start ≤ length octets → listed (map (field_in (take start octets)) spans) (drop start octets) ≡ old → now ≡ octets ++ text → listed (map (field_in (take start now)) spans) (drop start now) ≡ listed old.fields (old.next ++ text)
longer octets text now spans start old w e k =
    ap (λ (o : List ℕ). listed (map (field_in (take start o)) spans) (drop start o)) k
    ∙ ap (λ (o : List ℕ). listed (map (field_in o) spans) (drop start (octets ++ text))) (take-append-le start octets text w)
    ∙ ap (λ (n : List ℕ). listed (map (field_in (take start octets)) spans) n) (drop-append-le start octets text w)
    ∙ ap (λ (l : Listed). listed l.fields (l.next ++ text)) e

-- octets are added, or none
not-fewer : {T E : Type 0} (r : Result T E) (octets now : List ℕ) (Is : List ℕ → Type 0) → OnOk r ((text : List ℕ) × Is text × (now ≡ octets ++ text)) → OnErr r (now ≡ octets) → length octets ≤ length now
not-fewer (Ok x) octets now Is h k = omega (arith, ap length h.2, length-append octets h.0)
not-fewer (Err e) octets now Is h k = omega (arith, ap length k)

pub invariant_of-self : goal.invariant_of-self
invariant_of-self g c =
    let l = c.self.inside in
    let more = not-fewer c.huff_append.result l.octets.items c.huff_append.new.out.items (λ text. huffman_text c.args.octets.now ≡ Text text) c.huff_append.ensures.text c.huff_append.ensures.unchanged in
    (omega (arith, c.self.invariant.0, more), c.self.invariant.1)

pub returns-clause-text : goal.returns-clause-text
returns-clause-text g c =
    let l = c.self.inside in
    on_ok_weaker c.huff_append.result (λ h. (h.0, h.1, longer l.octets.items h.0 c.huff_append.new.out.items l.spans.items l.start c.args.self.now c.self.invariant.0 c.self.view_is h.2)) c.huff_append.ensures.text

pub returns-clause-unchanged : goal.returns-clause-unchanged
returns-clause-unchanged g c =
    let l = c.self.inside in
    on_err_weaker c.huff_append.result (λ e. ap (λ (o : List ℕ). listed (map (field_in (take l.start o)) l.spans.items) (drop l.start o)) e ∙ c.self.view_is) c.huff_append.ensures.unchanged
