-- Strings at the front of octets, by what their length is read as.
use Rattle.std.proofs.Common.{inl, inr, ◌≡◌, ℕ, ◌+◌, ◌<◌, ◌≤◌, List, [], ◌∷◌, length, take, drop, leb, le-leb, refl, ap, ◌∙◌, sym, subst}
use Rattle.std.proofs.lemmas.Bool.{lt-leb}
use Rattle.std.proofs.lemmas.Bool.Decides.{leb_tells}
use Rattle.std.proofs.lemmas.List.{length-take-le}
use Rattle.h2_spec.specs.Hpack.Integer.{int_at, IsReadOf}
use Rattle.h2_spec.specs.Hpack.Instruction.{string_at, octets_at, read_then}
use Rattle.h2_spec.specs.Read.{Read, Whole, More, TooLong}
use Rattle.h2_spec.proofs.IntegerLaws.{int_read}
use Rattle.h2_prim.specs.Readings.{str}

string-is : (o : ℕ) (cs : List ℕ) → string_at (o ∷ cs) ≡ read_then (o ∷ cs) (int_at 7 (o ∷ cs)) (octets_at (leb 128 o))
unfolding string_at
string-is o cs = refl

pub not_le : (a b : ℕ) → (a ≤ b → ⊥) → b < a
not_le a b h =
    elim (leb_tells a b) [
      | inl e ↦ absurd (h e.1)
      | inr d ↦ d.1
    ]

-- an integer takes no more octets than there are
pub int-within : (n v used : ℕ) (xs : List ℕ) → Whole v used ≡ int_at n xs → used ≤ length xs
int-within n v used xs e = (subst (λ r. IsReadOf n xs r) (sym e) (int_read n xs)).0

pub string_none : (xs : List ℕ) → length xs ≡ 0 → More ≡ string_at xs
unfolding string_at
string_none [] e = refl
string_none (x ∷ xs) e = cc

-- by the length that was read
behind : (o : ℕ) (xs cs : List ℕ) (r : Read ℕ) → xs ≡ o ∷ cs → r ≡ int_at 7 xs → read_then xs r (octets_at (leb 128 o)) ≡ string_at xs
behind o xs cs r front e = rw (front, e, front) (sym (string-is o cs))

pub string_whole : (o n start : ℕ) (xs cs inside : List ℕ) → xs ≡ o ∷ cs → Whole n start ≡ int_at 7 xs → n ≤ length (drop start xs) → inside ≡ take n (drop start xs) →
    Whole (str (leb 128 o) inside) (start + length inside) ≡ string_at xs
string_whole o n start xs cs inside front e enough there =
    let size : length inside ≡ n = ap length there ∙ length-take-le n (drop start xs) enough in
    let whole : read_then xs (Whole n start) (octets_at (leb 128 o)) ≡ Whole (str (leb 128 o) (take n (drop start xs))) (start + n) = rw (le-leb n (length (drop start xs)) enough) refl in
    rw (size, there) (sym whole ∙ behind o xs cs (Whole n start) front e)

pub string_missing : (o n start : ℕ) (xs cs : List ℕ) → xs ≡ o ∷ cs → Whole n start ≡ int_at 7 xs → length (drop start xs) < n → More ≡ string_at xs
string_missing o n start xs cs front e short =
    let none : read_then xs (Whole n start) (octets_at (leb 128 o)) ≡ More = rw (lt-leb n (length (drop start xs)) short) refl in
    sym none ∙ behind o xs cs (Whole n start) front e

pub string_more : (o : ℕ) (xs cs : List ℕ) → xs ≡ o ∷ cs → More ≡ int_at 7 xs → More ≡ string_at xs
string_more o xs cs front e = behind o xs cs More front e

pub string_too_long : (o : ℕ) (xs cs : List ℕ) → xs ≡ o ∷ cs → TooLong ≡ int_at 7 xs → TooLong ≡ string_at xs
string_too_long o xs cs front e = behind o xs cs TooLong front e
