-- What more octets, fewer octets and one more span do to the fields of a list of octets.
use Rattle.std.proofs.Common.{◌≡◌, ℕ, zero, suc, ◌+◌, ◌-◌, ◌<◌, ◌≤◌, List, [], ◌∷◌, ◌++◌, length, take, drop, map, get_or, refl, ap, ◌∙◌, sym, subst, arith, length-drop, length-take, length-take-le}
use Rattle.std.proofs.lemmas.List.{map-append, drop-append-le, take-append-le, take_all, take-take, take-append-drop, take-map, drop-drop}
use Rattle.std.proofs.Math.ListN.{drop_of_length-le}
use Rattle.h2_spec.specs.Hpack.Field.{field}
use Rattle.h2_hpack_list.specs.Spans.{IsOrdered, AreSpans, IsPart, between, field_in}
use Rattle.h2_hpack_list.specs.declared.OctetRange.{OctetRange}
use Rattle.h2_hpack_list.specs.declared.Span.{Span}

-- ---- where spans are

pub spans-end : (start : ℕ) (spans : List Span) (end : ℕ) → AreSpans start spans end → start ≤ end
spans-end start [] end h = omega (arith, h)
spans-end start (s ∷ spans) end h = omega (arith, h.0, h.1.0.start, spans-end s.end spans end h.1.1)

-- the span at a place
pub record SpanAt (s : Span) (end : ℕ) : Type 0 where
  pub ordered : IsOrdered s
  pub within : s.end ≤ end

pub span-at : (start : ℕ) (spans : List Span) (end place : ℕ) (s : Span) → AreSpans start spans end → place < length spans → s ≡ get_or spans place s → SpanAt s end
span-at start [] end place s h k e = absurd (omega arith)
span-at start (x ∷ spans) end zero s h k e = rw e (record { ordered = h.1.0; within = spans-end x.end spans end h.1.1 })
span-at start (x ∷ spans) end (suc place) s h k e = span-at x.end spans end place s h.1.1 (omega arith) e

-- the span that is looked up is in order, also where there is none
pub looked-up : (spans found : List Span) (start : ℕ) (s : Span) → ((end : ℕ) → AreSpans 0 found end → IsOrdered s × (s.end ≤ end)) → found ≡ spans → AreSpans 0 spans start → SpanAt s start
looked-up spans found start s h e k =
    let at = h start (subst (λ (x : List Span). AreSpans 0 x start) (sym e) k) in
    record { ordered = at.0; within = at.1 }

-- the spans before a place end where the one there starts
pub spans-before : (start : ℕ) (spans : List Span) (end place : ℕ) (s : Span) → AreSpans start spans end → place < length spans → s ≡ get_or spans place s → AreSpans start (take place spans) s.start
spans-before start [] end place s h k e = absurd (omega arith)
spans-before start (x ∷ spans) end zero s h k e = rw e (sym h.0)
spans-before start (x ∷ spans) end (suc place) s h k e = (h.0, (h.1.0, spans-before x.end spans end place s h.1.1 (omega arith) e))

-- one span more
pub spans-push : (start : ℕ) (spans : List Span) (end : ℕ) (s : Span) → AreSpans start spans end → s.start ≡ end → IsOrdered s → AreSpans start (spans ++ s ∷ []) s.end
spans-push start [] end s h e o = (e ∙ sym h, (o, refl))
spans-push start (x ∷ spans) end s h e o = (h.0, (h.1.0, spans-push x.end spans end s h.1.1 e o))

-- ---- the fields of the first octets

pub between-cut : (start end cut : ℕ) (octets : List ℕ) → start ≤ end → end ≤ cut → cut ≤ length octets → between start end (take cut octets) ≡ between start end octets
between-cut start end cut octets h k w =
    let first = take cut octets in
    let more = drop cut octets in
    let count : length first ≡ cut = length-take-le cut octets w in
    let inside : start ≤ length first = omega (arith, count) in
    let enough : end - start ≤ length (drop start first) = omega (arith, count, length-drop start first) in
    sym (ap (between start end) (sym (take-append-drop cut octets)) ∙ ap (take (end - start)) (drop-append-le start first more inside) ∙ take-append-le (end - start) (drop start first) more enough)

pub field-cut : (s : Span) (cut : ℕ) (octets : List ℕ) → IsOrdered s → s.end ≤ cut → cut ≤ length octets → field_in (take cut octets) s ≡ field_in octets s
field-cut s cut octets o k w =
    ap (λ n. field n (between s.value.start s.value.end (take cut octets))) (between-cut s.name.start s.name.end cut octets o.name (omega (arith, o.name_within)) w)
    ∙ ap (λ v. field (between s.name.start s.name.end octets) v) (between-cut s.value.start s.value.end cut octets o.value (omega (arith, o.value_within)) w)

pub fields-cut : (start : ℕ) (spans : List Span) (end cut : ℕ) (octets : List ℕ) → AreSpans start spans end → end ≤ cut → cut ≤ length octets → map (field_in (take cut octets)) spans ≡ map (field_in octets) spans
fields-cut start [] end cut octets h k w = refl
fields-cut start (s ∷ spans) end cut octets h k w =
    let more = spans-end s.end spans end h.1.1 in
    ap (λ f. f ∷ map (field_in (take cut octets)) spans) (field-cut s cut octets h.1.0 (omega (arith, more)) w)
    ∙ ap (λ fs. field_in octets s ∷ fs) (fields-cut s.end spans end cut octets h.1.1 k w)

-- ---- octets after those of the fields, and one span more

-- a span whose parts are there is ordered
pub span-ordered : (s : Span) (octets name value : List ℕ) → s.start ≤ s.end → s.end ≡ length octets → IsPart s.name octets name → IsPart s.value octets value → IsOrdered s
span-ordered s octets name value h e n v = record { start = h; name = n.ordered; name_within = omega (arith, n.within, e); value = v.ordered; value_within = omega (arith, v.within, e) }

-- the octets `now` begin with the first `start` of the octets
pub record Begins (start : ℕ) (octets now : List ℕ) : Type 0 where
  pub held : start ≤ length octets
  pub within : start ≤ length now
  pub same : take start now ≡ take start octets

-- the first octets alone, and then with more after
pub begins : (start : ℕ) (octets : List ℕ) → start ≤ length octets → Begins start octets (take start octets)
begins start octets w = record { held = w; within = omega (arith, length-take-le start octets w); same = take_all start (take start octets) (omega (arith, length-take-le start octets w)) }

pub begins-whole : (start : ℕ) (octets : List ℕ) → start ≤ length octets → Begins start octets octets
begins-whole start octets w = record { held = w; within = w; same = refl }

longer : (now then : List ℕ) → take (length now) then ≡ now → length now ≤ length then
longer now then k = omega (arith, ap length k, length-take (length now) then)

pub begins-more : (start : ℕ) (octets now then : List ℕ) → Begins start octets now → take (length now) then ≡ now → Begins start octets then
begins-more start octets now then b k =
    let more = longer now then k in
    let cut : take start (take (length now) then) ≡ take start then = take-take start (length now) then b.within in
    record { held = b.held; within = omega (arith, b.within, more); same = sym cut ∙ ap (take start) k ∙ b.same }

-- cut to the first octets, and then with more after
pub begins-again : (start : ℕ) (octets cut now : List ℕ) → start ≤ length octets → cut ≡ take start octets → take (length cut) now ≡ cut → Begins start octets now
begins-again start octets cut now w e k = begins-more start octets cut now (subst (Begins start octets) (sym e) (begins start octets w)) k

-- the fields stay
pub stay : (octets now : List ℕ) (spans : List Span) (start : ℕ) → Begins start octets now → map (field_in (take start now)) spans ≡ map (field_in (take start octets)) spans
stay octets now spans start b = ap (λ (o : List ℕ). map (field_in o) spans) b.same

-- a part stays where more octets are added
pub part-stays : (part : OctetRange) (octets now text : List ℕ) → IsPart part octets text → take (length octets) now ≡ octets → IsPart part now text
part-stays part octets now text p k =
    let more : length octets ≤ length now = omega (arith, ap length k, length-take (length octets) now) in
    record {
      ordered = p.ordered;
      within = omega (arith, p.within, more);
      is = sym (between-cut part.start part.end (length octets) now p.ordered p.within more) ∙ ap (between part.start part.end) k ∙ p.is;
    }

pub record Adds (octets now : List ℕ) (spans : List Span) (s : Span) (start : ℕ) (name value : List ℕ) : Type 0 where
  pub fields : map (field_in (take s.end now)) (spans ++ s ∷ []) ≡ map (field_in (take start octets)) spans ++ field name value ∷ []
  pub next : drop s.end now ≡ []

pub adds : (octets now : List ℕ) (spans : List Span) (s : Span) (start : ℕ) (name value : List ℕ) → Begins start octets now → AreSpans 0 spans start → s.end ≡ length now → IsPart s.name now name → IsPart s.value now value → Adds octets now spans s start name value
adds octets now spans s start name value b h e n v =
    let whole : take s.end now ≡ now = take_all s.end now (omega (arith, e)) in
    record {
      fields = ap (λ (o : List ℕ). map (field_in o) (spans ++ s ∷ [])) whole
          ∙ map-append (field_in now) spans (s ∷ [])
          ∙ ap (λ fs. fs ++ field_in now s ∷ []) (sym (fields-cut 0 spans start start now h (omega arith) b.within) ∙ stay octets now spans start b)
          ∙ ap (λ t. map (field_in (take start octets)) spans ++ field t (between s.value.start s.value.end now) ∷ []) n.is
          ∙ ap (λ t. map (field_in (take start octets)) spans ++ field name t ∷ []) v.is;
      next = drop_of_length-le now (omega (arith, e));
    }

-- the octets after the fields are two parts
pub front-part : (part : OctetRange) (octets : List ℕ) (start name : ℕ) → start ≤ length octets → part.start ≡ start → part.end ≡ start + name → name ≤ length (drop start octets) → IsPart part octets (take name (drop start octets))
front-part part octets start name w a b n =
    let count : part.end - part.start ≡ name = omega (arith, a, b) in
    record {
      ordered = omega (arith, a, b);
      within = omega (arith, b, n, w, length-drop start octets);
      is = ap (λ n. take n (drop part.start octets)) count ∙ ap (λ n. take name (drop n octets)) a;
    }

pub last-part : (part : OctetRange) (octets : List ℕ) (start name : ℕ) → start ≤ length octets → part.start ≡ start + name → part.end ≡ length octets → name ≤ length (drop start octets) → IsPart part octets (drop name (drop start octets))
last-part part octets start name w a b n =
    let more = drop start octets in
    let rest : drop part.start octets ≡ drop name more = ap (λ n. drop n octets) a ∙ sym (drop-drop name start octets) in
    let count : length (drop name more) ≤ part.end - part.start = omega (arith, a, b, length-drop name more, length-drop start octets) in
    record {
      ordered = omega (arith, a, b, n, length-drop start octets);
      within = omega (arith, b);
      is = ap (take (part.end - part.start)) rest ∙ take_all (part.end - part.start) (drop name more) count;
    }

-- ---- the first fields are kept

pub record Keeps (octets : List ℕ) (spans : List Span) (start place : ℕ) (s : Span) : Type 0 where
  pub within : s.start ≤ start
  pub before : AreSpans 0 (take place spans) s.start
  pub fields : map (field_in (take s.start octets)) (take place spans) ≡ take place (map (field_in (take start octets)) spans)

pub keeps : (octets : List ℕ) (spans : List Span) (start place : ℕ) (s : Span) → start ≤ length octets → AreSpans 0 spans start → place < length spans → s ≡ get_or spans place s → Keeps octets spans start place s
keeps octets spans start place s w h k e =
    let at = span-at 0 spans start place s h k e in
    let before = spans-before 0 spans start place s h k e in
    let within : s.start ≤ start = omega (arith, at.ordered.start, at.within) in
    record {
      within = within;
      before = before;
      fields = fields-cut 0 (take place spans) s.start s.start octets before (omega arith) (omega (arith, within, w))
          ∙ sym (fields-cut 0 (take place spans) s.start start octets before within w)
          ∙ sym (take-map (field_in (take start octets)) place spans);
    }
