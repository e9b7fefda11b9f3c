-- Copying the entries of a table one after another.
use Rattle.std.proofs.Common.{◌≡◌, ℕ, ◌+◌, ◌<◌, List, [], ◌∷◌, ◌++◌, length, get_or, take, ap, ◌∙◌, sym, Some, slice_get}
use Rattle.std.proofs.lemmas.List.{take_more}
use Rattle.std.proofs.lemmas.Option.{get_or_from_slice_get}
use Rattle.h2_spec.specs.Hpack.Field.{Field}

-- one more copied
pub copied_more : (xs ys : List Field) (i : ℕ) (x y : Field) → ys ≡ take i xs → i < length xs → slice_get xs i ≡ Some x → y ≡ x → ys ++ y ∷ [] ≡ take (i + 1) xs
copied_more xs ys i x y same inside at copy =
    ap (λ s. s ++ y ∷ []) same ∙ ap (λ p. take i xs ++ p ∷ []) (copy ∙ sym (get_or_from_slice_get xs i x x at)) ∙ sym (take_more xs i x inside)

-- as above, where the entry is the one at that place
pub copied_next : (xs ys : List Field) (i : ℕ) (x y : Field) → ys ≡ take i xs → i < length xs → x ≡ get_or xs i x → y ≡ x → ys ++ y ∷ [] ≡ take (i + 1) xs
copied_next xs ys i x y same inside at copy =
    ap (λ s. s ++ y ∷ []) same ∙ ap (λ p. take i xs ++ p ∷ []) (copy ∙ at) ∙ sym (take_more xs i x inside)
