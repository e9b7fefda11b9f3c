-- Parts of lists: the first elements, and those from a place on.
use Rattle.std.proofs.Common.{◌≡◌, ℕ, zero, suc, ◌+◌, ◌-◌, ◌<◌, ◌≤◌, List, [], ◌∷◌, ◌++◌, length, take, drop, get_or, refl, ap, ◌∙◌, sym, arith, length-drop, Some, None, slice_get}
use Rattle.std.proofs.lemmas.List.{get_or-drop, take_more}
use Rattle.std.proofs.lemmas.Option.{get_or_from_slice_get, slice_get-get_or, slice_get_within}
use Rattle.h2_spec.specs.Hpack.Field.{Field}

-- there is an element at each place before the end
pub some-at : {X : Type 0} (xs : List X) (i : ℕ) → i < length xs → None ≡ slice_get xs i → ⊥
some-at [] i h e = omega arith
some-at (x ∷ xs) i h e = let s = slice_get-get_or (x ∷ xs) i x h in cc

pub get-rest : {X : Type 0} (from i : ℕ) (xs : List X) → slice_get (drop from xs) i ≡ slice_get xs (from + i)
get-rest zero i xs = let same : i ≡ 0 + i = omega arith in ap (slice_get xs) same
get-rest (suc from) i [] = refl
get-rest (suc from) i (x ∷ xs) = let same : suc (from + i) ≡ suc from + i = omega arith in get-rest from i xs ∙ ap (slice_get (x ∷ xs)) same

-- where the first elements are the same, and the next is, so are they together
pub same-next : {X : Type 0} (n : ℕ) (xs ys : List X) → n < length xs → take n xs ≡ take n ys → slice_get xs n ≡ slice_get ys n → take (n + 1) xs ≡ take (n + 1) ys
same-next n [] ys h e g = absurd (omega arith)
same-next n (x ∷ xs) ys h e g =
    let at = slice_get-get_or (x ∷ xs) n x h in
    let there = sym g ∙ at in
    let inside : n < length ys = slice_get_within ys n _ there in
    take_more (x ∷ xs) n x h
    ∙ ap (λ l. l ++ get_or (x ∷ xs) n x ∷ []) e
    ∙ ap (λ y. take n ys ++ y ∷ []) (sym (get_or_from_slice_get ys n _ x there))
    ∙ sym (take_more ys n x inside)

-- one field more of those from a place on
pub copied-more : (xs ys : List Field) (from i : ℕ) (f : Field) → ys ≡ take (i - from) (drop from xs) → from ≤ i → i < length xs → Some f ≡ slice_get xs i → ys ++ f ∷ [] ≡ take (i + 1 - from) (drop from xs)
copied-more xs ys from i f e le h is =
    let k = i - from in
    let same : from + k ≡ i = omega (arith, le) in
    let next : k + 1 ≡ i + 1 - from = omega (arith, le) in
    let at : get_or (drop from xs) k f ≡ f = get_or-drop from xs k f ∙ ap (λ n. get_or xs n f) same ∙ get_or_from_slice_get xs i f f (sym is) in
    ap (λ s. s ++ f ∷ []) e
    ∙ ap (λ p. take k (drop from xs) ++ p ∷ []) (sym at)
    ∙ sym (take_more (drop from xs) k f (omega (arith, le, h, length-drop from xs)))
    ∙ ap (λ n. take n (drop from xs)) next
