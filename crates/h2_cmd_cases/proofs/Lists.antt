-- Tests over texts that are lent, and over the texts themselves.
use Rattle.std.proofs.Common.{◌≡◌, ◌≤◌, ◌+◌, ◌||◌, ◌&&◌, ℕ, Bool, true, false, not, cond, List, [], ◌∷◌, map, Some, None, Bor, refl, ap, arith}
use Rattle.std.specs.List.{list_all, list_any, position_or_len}
use Rattle.std.specs.String.{string_bytes}
use Rattle.std.specs.declared.alloc.Global.{Global}
use Rattle.std.specs.declared.string.String.{String}

pub any_lent : (f : List ℕ → Bool) (xs : List (Bor (List ℕ))) → list_any (λ l. f l.now) xs ≡ list_any f (map (λ l. l.now) xs)
any_lent f [] = refl
any_lent f (x ∷ xs) = ap (λ b. f x.now || b) (any_lent f xs)

pub any_text : (f : List ℕ → Bool) (xs : List (String Global)) → list_any (λ w. f (string_bytes w)) xs ≡ list_any f (map string_bytes xs)
any_text f [] = refl
any_text f (x ∷ xs) = ap (λ b. f (string_bytes x) || b) (any_text f xs)

pub all_lent : (f : List ℕ → Bool) (xs : List (Bor (List ℕ))) → list_all (λ l. f l.now) xs ≡ list_all f (map (λ l. l.now) xs)
all_lent f [] = refl
all_lent f (x ∷ xs) = ap (λ b. f x.now && b) (all_lent f xs)

pub first_lent : (f : List ℕ → Bool) (xs : List (Bor (List ℕ))) → position_or_len (λ l. f l.now) xs ≡ position_or_len f (map (λ l. l.now) xs)
first_lent f [] = refl
first_lent f (x ∷ xs) = ap (λ n. cond (not (f x.now)) (1 + n) 0) (first_lent f xs)

-- where a first place was found, or none
pub found_place : (b : Bool) (p q : ℕ) → Some q ≡ cond b (Some p) None → q ≡ p
found_place true p q e = cc
found_place false p q e = cc

pub no_place : (b : Bool) (p n : ℕ) → p ≤ n → (b ≡ false → n ≤ p) → None ≡ cond b (Some p) None → n ≡ p
no_place true p n h g e = cc
no_place false p n h g e = let k = g refl in omega arith
