-- Lists that agree to the end of the shorter one.
use Rattle.std.proofs.Common.{◌≡◌, ℕ, zero, suc, ◌≤◌, Bool, List, [], ◌∷◌, length, drop, min, refl, arith}
use Rattle.std.specs.List.{common_prefix_len}

-- after the shorter list nothing agrees
pub common_prefix_len-drop_min : {X : Type 0} (e : X → X → Bool) (n : ℕ) (xs ys : List X) → min (length xs) (length ys) ≤ n → common_prefix_len e (drop n xs) (drop n ys) ≡ 0
common_prefix_len-drop_min e zero [] ys h = refl
common_prefix_len-drop_min e zero (x ∷ xs) [] h = refl
common_prefix_len-drop_min e zero (x ∷ xs) (y ∷ ys) h = absurd (omega arith)
common_prefix_len-drop_min e (suc n) [] ys h = refl
common_prefix_len-drop_min {X} e (suc n) (x ∷ xs) [] h = at (drop n xs)
  where
    at : (zs : List X) → common_prefix_len e zs [] ≡ 0
    at [] = refl
    at (z ∷ zs) = refl
common_prefix_len-drop_min e (suc n) (x ∷ xs) (y ∷ ys) h = common_prefix_len-drop_min e n xs ys (omega arith)
