-- Lists that are copied element after element.
use Rattle.std.proofs.Common.{◌≡◌, ◌∙◌, ℕ, zero, suc, ◌+◌, ◌-◌, ◌<◌, List, [], ◌∷◌, ◌++◌, length, take, map, Option, Some, None, refl, ap, arith}
use Rattle.std.specs.Prelude.{slice_get}
use Rattle.h2_spec.specs.Hpack.DynamicTable.{entry_at}
use Rattle.h2_spec.specs.Hpack.Field.{Field}
use Rattle.std.proofs.lemmas.List.{map-append, length-append}
use Rattle.std.proofs.lemmas.Option.{slice_get_within}

pub take-next : {X : Type 0} → (k : ℕ) (xs : List X) (x : X) → slice_get xs k ≡ Some x → take (suc k) xs ≡ take k xs ++ x ∷ []
take-next k [] x h = cc
take-next zero (y ∷ ys) x h = let same : y ≡ x = cc in ap (λ z. z ∷ []) same
take-next (suc k) (y ∷ ys) x h = ap (λ zs. y ∷ zs) (take-next k ys x h)

take-past : {X : Type 0} → (k : ℕ) (xs : List X) → slice_get xs k ≡ None → take k xs ≡ xs
take-past zero [] h = refl
take-past (suc k) [] h = refl
take-past zero (y ∷ ys) h = cc
take-past (suc k) (y ∷ ys) h = ap (λ zs. y ∷ zs) (take-past k ys h)

-- places are counted from 0, the table's from 1
pub from-first : (k : ℕ) (es : List Field) (o : Option Field) → o ≡ entry_at (k + 1) es → o ≡ slice_get es k
from-first k es o h = let next : k + 1 ≡ suc k = omega arith in rw next at h

pub taken-next : {X : Type 0} (xs ys zs : List X) (x : X) → zs ≡ ys ++ x ∷ [] → slice_get xs (length ys) ≡ Some x → ys ≡ take (length ys) xs → zs ≡ take (length zs) xs
taken-next xs ys zs x e h i =
    let more : length zs ≡ suc (length ys) = omega (arith, ap length e, length-append ys (x ∷ [])) in
    rw more (rw (take-next (length ys) xs x h, ← i) e)

-- what remains to copy becomes less
pub fewer-left : {X Y : Type 0} (xs : List X) (ys zs : List Y) (y : Y) (x : X) → zs ≡ ys ++ y ∷ [] → slice_get xs (length ys) ≡ Some x → length xs - length zs < length xs - length ys
fewer-left xs ys zs y x e h = omega (arith, ap length e, length-append ys (y ∷ []), slice_get_within xs (length ys) x h)

pub taken-all : {X : Type 0} (xs ys : List X) → slice_get xs (length ys) ≡ None → ys ≡ take (length ys) xs → ys ≡ xs
taken-all xs ys h i = i ∙ take-past (length ys) xs h

-- the copies so far, and one more
pub copied-next : {X Y : Type 0} (f : X → Y) (xs : List X) (ys zs : List Y) (x : X) (y : Y) → zs ≡ ys ++ y ∷ [] → y ≡ f x → slice_get xs (length ys) ≡ Some x
    → ys ≡ map f (take (length ys) xs) → zs ≡ map f (take (length zs) xs)
copied-next f xs ys zs x y e c h i =
    let more : length zs ≡ suc (length ys) = omega (arith, ap length e, length-append ys (y ∷ [])) in
    rw more (rw (take-next (length ys) xs x h, map-append f (take (length ys) xs) (x ∷ []), ← i, ← c) e)

pub copied-all : {X Y : Type 0} (f : X → Y) (xs : List X) (ys : List Y) → slice_get xs (length ys) ≡ None → ys ≡ map f (take (length ys) xs) → ys ≡ map f xs
copied-all f xs ys h i = i ∙ ap (map f) (take-past (length ys) xs h)
