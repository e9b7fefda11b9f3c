-- What is ahead of a reader, octet after octet.
use Rattle.std.proofs.Common.{◌≡◌, ◌∙◌, ◌+◌, ◌-◌, ◌≤◌, ℕ, List, [], ◌∷◌, ◌++◌, Option, Some, None, drop, length, take, refl, ap, sym, append_assoc, arith}
use Rattle.std.specs.List.{slice_range}
use Rattle.std.proofs.lemmas.List.{drop-drop, drop-take, length-drop, length-take-le}
use Rattle.std.specs.Io.KnownBytes.{Consumes, prepend_known}

pub takes-held : (before after : List ℕ) (octet : ℕ) (rest : Option (List ℕ)) → before ≡ octet ∷ after → Consumes (prepend_known before rest) (prepend_known after rest) (octet ∷ [])
takes-held before after octet None e = tt
takes-held before after octet (Some rest) e = ap (λ (t : List ℕ). t ++ rest) e

pub takes-read : (held after : List ℕ) (octet : ℕ) (before rest : Option (List ℕ)) → Consumes before rest held → held ≡ octet ∷ after → Consumes before (prepend_known after rest) (octet ∷ [])
takes-read held after octet None rest c e = tt
takes-read held after octet (Some before) None c e = absurd c
takes-read held after octet (Some before) (Some rest) c e = c ∙ ap (λ (t : List ℕ). t ++ rest) e

-- nothing is held
pub none-held : (held : List ℕ) (rest : Option (List ℕ)) → held ≡ [] → prepend_known held rest ≡ rest
none-held held None e = refl
none-held held (Some rest) e = ap (λ (t : List ℕ). Some (t ++ rest)) e

-- what is taken in turn
pub takes-more : (old mid new : Option (List ℕ)) (xs ys : List ℕ) → Consumes old mid xs → Consumes mid new ys → Consumes old new (xs ++ ys)
takes-more None mid new xs ys x y = tt
takes-more (Some a) None new xs ys x y = absurd x
takes-more (Some a) (Some b) None xs ys x y = absurd y
takes-more (Some a) (Some b) (Some c) xs ys x y = x ∙ ap (λ (t : List ℕ). xs ++ t) y ∙ sym (append_assoc xs ys c)

-- what is held was taken in part
pub takes-part : (before after part : List ℕ) (rest : Option (List ℕ)) → before ≡ part ++ after → Consumes (prepend_known before rest) (prepend_known after rest) part
takes-part before after part None e = tt
takes-part before after part (Some rest) e = ap (λ (t : List ℕ). t ++ rest) e ∙ append_assoc part after rest

-- what is held after some of it was taken
pub range-rest : (xs : List ℕ) (start count end : ℕ) → start ≤ end → end ≤ length xs → count ≤ length (slice_range xs start end)
    → slice_range xs (start + count) end ≡ drop count (slice_range xs start end)
range-rest xs start count end low high le =
    let whole : length (slice_range xs start end) ≡ end - start = length-take-le (end - start) (drop start xs) (omega (arith, length-drop start xs)) in
    let left : ℕ = end - (start + count) in
    let all : end - start ≡ count + left = omega (arith, whole) in
    sym (ap (λ (n : ℕ). drop count (take n (drop start xs))) all ∙ drop-take count left (drop start xs) ∙ ap (take left) (drop-drop count start xs))
