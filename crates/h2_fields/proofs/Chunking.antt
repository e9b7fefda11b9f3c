-- Octets in chunks of 1,024.
use Rattle.std.proofs.Common.{◌≡◌, ℕ, ◌+◌, ◌*◌, ◌<◌, List, [], ◌∷◌, ◌++◌, length, take, drop, get_or, ap, ◌∙◌, sym, arith}
use Rattle.std.proofs.lemmas.List.{append-nil, drop-take, take-append-drop, take-take, take_more}
use Rattle.std.proofs.lemmas.List.Folds.{concat-append}
use Rattle.std.specs.List.{concat}

-- lists and one more, joined
concat-more : (xss : List (List ℕ)) (xs : List ℕ) → concat (xss ++ xs ∷ []) ≡ concat xss ++ xs
concat-more xss xs = concat-append xss (xs ∷ []) ∙ ap (λ l. concat xss ++ l) (append-nil xs)

-- octets in two parts
take-parts : (n m : ℕ) (xs : List ℕ) → take n xs ++ take m (drop n xs) ≡ take (n + m) xs
take-parts n m xs =
    ap (λ l. l ++ take m (drop n xs)) (sym (take-take n (n + m) xs (omega arith)))
    ∙ ap (λ l. take n (take (n + m) xs) ++ l) (sym (drop-take n m xs))
    ∙ take-append-drop n (take (n + m) xs)

-- one chunk more
pub one-more : (xs x : List ℕ) (chunks : List (List ℕ)) (i : ℕ) → concat chunks ≡ take (i * 1024) xs → x ≡ take 1024 (drop (i * 1024) xs) → concat (chunks ++ x ∷ []) ≡ take ((i + 1) * 1024) xs
one-more xs x chunks i same is =
    let next : i * 1024 + 1024 ≡ (i + 1) * 1024 = omega arith in
    concat-more chunks x ∙ ap (λ l. l ++ x) same ∙ ap (λ l. take (i * 1024) xs ++ l) is ∙ take-parts (i * 1024) 1024 xs ∙ ap (λ n. take n xs) next

-- the octets of one chunk more
pub joined-more : (chunks : List (List ℕ)) (octets x : List ℕ) (i : ℕ) → octets ≡ concat (take i chunks) → i < length chunks → x ≡ get_or chunks i x → octets ++ x ≡ concat (take (i + 1) chunks)
joined-more chunks octets x i same inside is =
    ap (λ l. l ++ x) same ∙ sym (concat-more (take i chunks) x) ∙ ap (λ y. concat (take i chunks ++ y ∷ [])) is ∙ ap concat (sym (take_more chunks i x inside))
