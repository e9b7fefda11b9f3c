-- Steps over a text: to the first place of an octet, and over digits.
use Rattle.std.proofs.Common.{◌≡◌, ◌+◌, ◌-◌, ◌*◌, ◌<◌, ◌≤◌, ◌^◌, ◌&&◌, ℕ, Bool, true, false, List, Some, None, refl, arith, cond, nat_le, nat_lt, length, drop, get_or, add-one, drop-cons, drop_of_length-le, le-leb, ltb-false, position, unwrap_or}
use Rattle.std.specs.List.{position_or_len}
use Rattle.std.proofs.Math.Nat.{pow-suc}
use Rattle.std.proofs.lemmas.List.Sums.{prefix_len-le-length}
use Rattle.h2_spec.specs.Texts.Assemble.{scanned}

-- the first place, or the length
pub unwrap_or-position : (p : ℕ → Bool) (xs : List ℕ) → unwrap_or (position p xs) (length xs) ≡ position_or_len p xs
unwrap_or-position p xs = go (nat_lt (position_or_len p xs) (length xs)) refl
  where
    go : (t : Bool) → nat_lt (position_or_len p xs) (length xs) ≡ t → unwrap_or (cond t (Some (position_or_len p xs)) None) (length xs) ≡ position_or_len p xs
    go true e = refl
    go false e =
        let far : length xs ≤ position_or_len p xs = ltb-false _ _ e in
        let near : position_or_len p xs ≤ length xs = prefix_len-le-length _ xs in
        omega arith

pub scan_digit : (n i : ℕ) (s : List ℕ) → i < length s → 48 ≤ get_or s i 0 → get_or s i 0 ≤ 57
    → scanned n (drop i s) ≡ scanned (n * 10 + (get_or s i 0 - 48)) (drop (i + 1) s)
unfolding scanned
scan_digit n i s inside low high = rw (add-one, drop-cons s i 0, le-leb 48 (get_or s i 0) low, le-leb (get_or s i 0) 57 high) refl

leb-false : {a b : ℕ} → b < a → nat_le a b ≡ false
leb-false h = grind arith

pub scan_low : (n i : ℕ) (s : List ℕ) → i < length s → get_or s i 0 < 48 → scanned n (drop i s) ≡ None
unfolding scanned
scan_low n i s inside low = let no : nat_le 48 (get_or s i 0) ≡ false = leb-false low in rw (drop-cons s i 0, no) refl

both_false : (a b : Bool) → b ≡ false → (a && b) ≡ false
both_false true b e = e
both_false false b e = refl

pub scan_high : (n i : ℕ) (s : List ℕ) → i < length s → 57 < get_or s i 0 → scanned n (drop i s) ≡ None
unfolding scanned
scan_high n i s inside high =
    let no : nat_le (get_or s i 0) 57 ≡ false = leb-false high in
    rw (drop-cons s i 0, both_false (nat_le 48 (get_or s i 0)) (nat_le (get_or s i 0) 57) no) refl

pub scan_end : (n i : ℕ) (s : List ℕ) → length s ≤ i → scanned n (drop i s) ≡ Some n
unfolding scanned
scan_end n i s past = rw (drop_of_length-le s past) refl

pub power_more : (n d i : ℕ) → n < 10 ^ i → d < 10 → n * 10 + d < 10 ^ (i + 1)
power_more n d i small digit = rw (add-one, pow-suc 10 i) (omega arith)
