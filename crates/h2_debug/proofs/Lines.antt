-- The lines of a text, line after line.
use Rattle.std.proofs.Common.{◌≡◌, ℕ, Bool, true, false, List, [], ◌∷◌, ◌++◌, nat_eq, refl, ap}
use Rattle.h2_debug.specs.Lines.{ended_lines, lines_of, onto_ended, onto_first}
use Rattle.h2_debug.specs.Reading.{IsPlain}

-- a plain text begins with no line feed
first-plain : (x : ℕ) (xs : List ℕ) (b : Bool) → nat_eq x 10 ≡ b → IsPlain (x ∷ xs) → (b ≡ false) × IsPlain xs
first-plain x xs true e p = absurd (cc (rw e at p))
first-plain x xs false e p = (refl, rw e at p)

pub lines-first : (line more : List ℕ) → IsPlain line → lines_of ((line ++ 10 ∷ []) ++ more) ≡ line ∷ lines_of more
lines-first [] more p = refl
lines-first (x ∷ xs) more p =
    let f = first-plain x xs (nat_eq x 10) refl p in
    rw f.0 (ap (onto_first x) (lines-first xs more f.1))

pub ended-first : (line more : List ℕ) → IsPlain line → ended_lines ((line ++ 10 ∷ []) ++ more) ≡ line ∷ ended_lines more
ended-first [] more p = refl
ended-first (x ∷ xs) more p =
    let f = first-plain x xs (nat_eq x 10) refl p in
    rw f.0 (ap (onto_ended x) (ended-first xs more f.1))

-- a text without a line feed
pub ended-none : (line : List ℕ) → IsPlain line → ended_lines line ≡ []
ended-none [] p = refl
ended-none (x ∷ xs) p =
    let f = first-plain x xs (nat_eq x 10) refl p in
    rw f.0 (ap (onto_ended x) (ended-none xs f.1))

pub lines-last : (x : ℕ) (xs : List ℕ) → IsPlain (x ∷ xs) → lines_of (x ∷ xs) ≡ (x ∷ xs) ∷ []
lines-last x [] p = let f = first-plain x [] (nat_eq x 10) refl p in rw f.0 refl
lines-last x (y ∷ ys) p =
    let f = first-plain x (y ∷ ys) (nat_eq x 10) refl p in
    rw f.0 (ap (onto_first x) (lines-last y ys f.1))
