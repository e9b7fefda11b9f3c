-- What one place more, and more spans, do to the fields that are chosen.
use Rattle.std.proofs.Common.{◌≡◌, ℕ, zero, suc, ◌<◌, ◌≤◌, List, [], ◌∷◌, ◌++◌, length, take, get_or, refl, ap, ◌∙◌, sym, arith}
use Rattle.std.proofs.lemmas.List.{get_or-take, map-append}
use Rattle.h2_spec.specs.Hpack.Field.{Field}
use Rattle.h2_hpack_list.specs.Folded.{AreBelow, chosen, field_at, nothing}
use Rattle.h2_hpack_list.specs.Spans.{AreSpans, field_in}
use Rattle.h2_hpack_list.specs.declared.Span.{Span}
use Rattle.h2_hpack_list.proofs.Closing.{SpanAt, spans-end}

-- a span of a list
pub span-in : (start : ℕ) (spans : List Span) (end place : ℕ) → AreSpans start spans end → place < length spans → SpanAt (get_or spans place nothing) end
span-in start [] end place h k = absurd (omega arith)
span-in start (s ∷ spans) end zero h k = record { ordered = h.1.0; within = spans-end s.end spans end h.1.1 }
span-in start (s ∷ spans) end (suc place) h k = span-in s.end spans end place h.1.1 (omega arith)

-- places stay below a greater count
pub below-more : (count more : ℕ) (places : List ℕ) → AreBelow count places → count ≤ more → AreBelow more places
below-more count more places b h i l = let at = b i l in omega (arith, at, h)

-- one place more
pub below-push : (count : ℕ) (places : List ℕ) (place : ℕ) → AreBelow count places → place < count → AreBelow count (places ++ place ∷ [])
below-push count [] place b h zero l = h
below-push count [] place b h (suc i) l = absurd (omega (arith, l))
below-push count (p ∷ places) place b h zero l = b zero (omega arith)
below-push count (p ∷ places) place b h (suc i) l = below-push count places place (λ j k. b (suc j) (omega (arith, k))) h i (omega (arith, l))

-- more spans after those that are chosen from
pub chosen-kept : (octets : List ℕ) (spans now : List Span) (places : List ℕ) → AreBelow (length spans) places → take (length spans) now ≡ spans → chosen octets now places ≡ chosen octets spans places
chosen-kept octets spans now [] b k = refl
chosen-kept octets spans now (p ∷ places) b k =
    let within : p < length spans = b zero (omega arith) in
    let same : get_or now p nothing ≡ get_or spans p nothing = sym (get_or-take (length spans) now p nothing within) ∙ ap (λ (s : List Span). get_or s p nothing) k in
    ap (λ (s : Span). field_in octets s ∷ chosen octets now places) same
    ∙ ap (λ fs. field_at octets spans p ∷ fs) (chosen-kept octets spans now places (λ i l. b (suc i) (omega (arith, l))) k)

-- one field more
pub chosen-push : (octets : List ℕ) (spans now : List Span) (places : List ℕ) (place : ℕ) (field : Field) → AreBelow (length spans) places → take (length spans) now ≡ spans → field_at octets now place ≡ field → chosen octets now (places ++ place ∷ []) ≡ chosen octets spans places ++ field ∷ []
chosen-push octets spans now places place field b k e =
    map-append (field_at octets now) places (place ∷ [])
    ∙ ap (λ fs. fs ++ field_at octets now place ∷ []) (chosen-kept octets spans now places b k)
    ∙ ap (λ f. chosen octets spans places ++ f ∷ []) e
