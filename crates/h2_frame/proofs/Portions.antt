-- Octets in two parts, of which the first ones or the last ones are left out.
use Rattle.std.proofs.Common.{◌≡◌, ℕ, ◌+◌, ◌-◌, ◌<◌, ◌≤◌, ◌∙◌, List, ◌++◌, length, take, drop, sym, ap, subst, arith, length-drop}
use Rattle.std.proofs.lemmas.List.{append-nil, drop-append-le, drop-drop, drop-take, length-append, take-append-le}
use Rattle.std.proofs.Math.Seq.{drop-append-add, take-append-add}

pub drop-first : (i k : ℕ) (xs ys : List ℕ) → i + k ≤ length xs → drop (i + k) xs ++ ys ≡ drop k (drop i xs ++ ys)
drop-first i k xs ys h =
    ap (λ (zs : List ℕ). zs ++ ys) (sym (drop-drop k i xs)) ∙ sym (drop-append-le k (drop i xs) ys (omega (arith, length-drop i xs, h)))

pub drop-second : (k : ℕ) (xs ys : List ℕ) → length xs ≤ k → drop (k - length xs) ys ≡ drop k (xs ++ ys)
drop-second k xs ys h =
    let whole : k ≡ length xs + (k - length xs) = omega (arith, h) in
    sym (subst (λ (n : ℕ). drop n (xs ++ ys) ≡ drop (k - length xs) ys) (sym whole) (drop-append-add xs ys (k - length xs)))

pub keep-both : (n : ℕ) (xs ys : List ℕ) → length xs ≤ n → n ≤ length (xs ++ ys) → xs ++ take (length ys - (length (xs ++ ys) - n)) ys ≡ take n (xs ++ ys)
keep-both n xs ys h g =
    let whole : n ≡ length xs + (n - length xs) = omega (arith, h) in
    let rest : length ys - (length (xs ++ ys) - n) ≡ n - length xs = omega (arith, length-append xs ys, h, g) in
    ap (λ (k : ℕ). xs ++ take k ys) rest
    ∙ sym (subst (λ (k : ℕ). take k (xs ++ ys) ≡ xs ++ take (n - length xs) ys) (sym whole) (take-append-add xs ys (n - length xs)))

pub keep-first : (i n : ℕ) (xs ys : List ℕ) → n < length (drop i xs) → drop i (take (i + n) xs) ++ take (length ys - (length (drop i xs ++ ys) - length (drop i xs))) ys ≡ take n (drop i xs ++ ys)
keep-first i n xs ys h =
    let none : length ys - (length (drop i xs ++ ys) - length (drop i xs)) ≡ 0 = omega (arith, length-append (drop i xs) ys) in
    ap (λ (k : ℕ). drop i (take (i + n) xs) ++ take k ys) none
    ∙ append-nil (drop i (take (i + n) xs))
    ∙ drop-take i n xs
    ∙ sym (take-append-le n (drop i xs) ys (omega (arith, h)))
