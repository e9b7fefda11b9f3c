-- How groups of seven bits add up, one after another.
use Rattle.std.proofs.Common.{◌≡◌, ℕ, zero, suc, ◌+◌, ◌-◌, ◌*◌, ◌/◌, ◌%◌, ◌^◌, ◌<◌, ◌≤◌, List, [], ◌∷◌, length, get_or, drop, ◌++◌, ◌∙◌, ap, subst, sym, append_assoc, cond, ltb, refl, arith, lt-ltb, le-ltb}
use Rattle.std.proofs.Math.Seq.{drop-cons}
use Rattle.std.proofs.lemmas.Nat.{pow_pos}
use Rattle.std.proofs.Math.Nat.{pow-le-pow_right, pow-suc, mul-le-mul_right}
use Rattle.std.proofs.Math.Numerals.{add-one}
use Rattle.h2_spec.specs.Read.{Read, Whole, More, TooLong}
use Rattle.h2_spec.specs.Hpack.Integer.{IsReadOf, groups_at, groups_of, int_at, scaled, spell_int}
use Rattle.h2_spec.proofs.IntegerLaws.{int_read}

-- a group before the number after it
pub scaled-scaled : (a w i d : ℕ) (r : Read ℕ) → scaled a w i (scaled d 128 1 r) ≡ scaled (a + d * w) (w * 128) (i + 1) r
scaled-scaled a w i d (Whole v more) =
    let value : a + w * (d + 128 * v) ≡ a + d * w + w * 128 * v = omega arith in
    let used : i + (1 + more) ≡ i + 1 + more = omega arith in
    λ j. Whole (value j) (used j)
scaled-scaled a w i d More = refl
scaled-scaled a w i d TooLong = refl

-- the groups from place i on, by the octet there
pub groups_at-drop : (cs : List ℕ) (i : ℕ) → i < length cs → i < 5 →
    groups_at (5 - i) (drop i cs) ≡ cond (ltb (get_or cs i 0) 128) (Whole (get_or cs i 0) 1) (scaled (get_or cs i 0 % 128) 128 1 (groups_at (5 - (i + 1)) (drop (i + 1) cs)))
groups_at-drop cs i within below =
    let enough : 5 - i ≡ suc (5 - (i + 1)) = omega arith in
    let next : i + 1 ≡ suc i = omega arith in
    rw (enough, drop-cons cs i 0 within, next) refl

-- what five groups can weigh
pub weight_small : (i : ℕ) → i < 5 → 128 ^ i ≤ 268435456
weight_small i h =
    let within : i ≤ 4 = omega arith in
    let positive : 0 < 128 = omega arith in
    pow-le-pow_right positive within

pub weight_more : (i : ℕ) → 128 ^ i * 128 ≡ 128 ^ (i + 1)
weight_more i = rw (add-one, pow-suc) refl

-- an octet below 128 ends the number
pub groups_at-last : (cs : List ℕ) (a w i : ℕ) → i < length cs → i < 5 → get_or cs i 0 < 128 →
    scaled a w i (groups_at (5 - i) (drop i cs)) ≡ Whole (a + get_or cs i 0 * w) (i + 1)
groups_at-last cs a w i within below small =
    let product : w * get_or cs i 0 ≡ get_or cs i 0 * w = omega arith in
    rw (groups_at-drop cs i within below, lt-ltb (get_or cs i 0) 128 small, product) refl

-- one from 128 on goes before the others
pub groups_at-more : (cs : List ℕ) (a w i : ℕ) → i < length cs → i < 5 → 128 ≤ get_or cs i 0 →
    scaled a w i (groups_at (5 - i) (drop i cs)) ≡ scaled (a + get_or cs i 0 % 128 * w) (w * 128) (i + 1) (groups_at (5 - (i + 1)) (drop (i + 1) cs))
groups_at-more cs a w i within below large =
    rw (groups_at-drop cs i within below, le-ltb (get_or cs i 0) 128 large) (scaled-scaled a w i (get_or cs i 0 % 128) _)

-- a group's part of the number stays below the next weight
pub part_small : (x w : ℕ) → x ≤ 127 → x * w ≤ 127 * w
part_small x w h = mul-le-mul_right w h

pub carry : (v x w : ℕ) → v < w → x ≤ 127 → v + x * w < w * 128
carry v x w h g = let part = part_small x w g in omega arith

-- what a prefix of n bits says, where it isn't full and where it is
pub int_at-none : (n : ℕ) (xs : List ℕ) → length xs ≡ 0 → More ≡ int_at n xs
unfolding int_at
int_at-none n [] e = refl
int_at-none n (x ∷ xs) e = cc

pub int_at-low : (n o v full : ℕ) (xs cs : List ℕ) → xs ≡ o ∷ cs → full ≡ 2 ^ n - 1 → v ≡ o % (full + 1) → v < full → Whole v 1 ≡ int_at n xs
unfolding int_at
int_at-low n o v full xs cs front e g h =
    let power : full + 1 ≡ 2 ^ n = omega (arith, e, pow_pos n) in
    let low : v ≡ o % 2 ^ n = rw power at g in
    rw (front, ← low, ← e, lt-ltb v full h) refl

pub int_at-full : (n o v full : ℕ) (xs cs : List ℕ) (r : Read ℕ) → xs ≡ o ∷ cs → full ≡ 2 ^ n - 1 → v ≡ o % (full + 1) → full ≤ v → r ≡ groups_at 5 cs → scaled full 1 1 r ≡ int_at n xs
unfolding int_at
int_at-full n o v full xs cs r front e g h groups =
    let power : full + 1 ≡ 2 ^ n = omega (arith, e, pow_pos n) in
    let low : v ≡ o % 2 ^ n = rw power at g in
    rw (front, ← low, ← e, le-ltb v full h, groups) refl

-- ---- writing

-- what remains to write of a number: at most as many groups as there is space for
pub record Left (out all : List ℕ) (len capacity v : ℕ) : Type 0 where
  pub enough : ℕ
  pub small : v < 128 ^ suc enough
  pub fits : len + suc enough ≤ capacity
  pub same : out ++ groups_of (suc enough) v ≡ all

-- the last group
pub last_group : (out all : List ℕ) (len capacity v : ℕ) → v < 128 → Left out all len capacity v → out ++ v ∷ [] ≡ all
last_group out all len capacity v h l = rw (lt-ltb v 128 h) at l.same

-- a group before others
pub one_group : (out new all : List ℕ) (len more capacity v : ℕ) → 128 ≤ v → more ≡ len + 1 → new ≡ out ++ (v % 128 + 128) ∷ [] → Left out all len capacity v → Left new all more capacity (v / 128)
one_group out new all len more capacity v h f e l = at l.enough l.small l.fits l.same
  where
    at : (enough : ℕ) → v < 128 ^ suc enough → len + suc enough ≤ capacity → out ++ groups_of (suc enough) v ≡ all → Left new all more capacity (v / 128)
    at zero small fits same = absurd (omega arith)
    at (suc enough) small fits same =
        let power : 128 ^ suc (suc enough) ≡ 128 * 128 ^ suc enough = omega arith in
        let cut : out ++ ((v % 128 + 128) ∷ groups_of (suc enough) (v / 128)) ≡ all = rw (le-ltb v 128 h) at same in
        record {
          enough = enough;
          small = omega (arith, small, power);
          fits = omega arith;
          same = ap (λ x. x ++ groups_of (suc enough) (v / 128)) e ∙ append_assoc out ((v % 128 + 128) ∷ []) (groups_of (suc enough) (v / 128)) ∙ cut;
        }

pub write_fits : (p high v : ℕ) → 1 ≤ p → p ≤ 8 → high % 2 ^ p ≡ 0 → high < 256 → v ≤ 2 ^ p - 1 → high + v < 256
write_fits zero high v a b h k l = absurd (omega arith)
write_fits (suc zero) high v a b h k l = omega arith
write_fits (suc (suc zero)) high v a b h k l = omega arith
write_fits (suc (suc (suc zero))) high v a b h k l = omega arith
write_fits (suc (suc (suc (suc zero)))) high v a b h k l = omega arith
write_fits (suc (suc (suc (suc (suc zero))))) high v a b h k l = omega arith
write_fits (suc (suc (suc (suc (suc (suc zero)))))) high v a b h k l = omega arith
write_fits (suc (suc (suc (suc (suc (suc (suc zero))))))) high v a b h k l = omega arith
write_fits (suc (suc (suc (suc (suc (suc (suc (suc zero)))))))) high v a b h k l = omega arith
write_fits (suc (suc (suc (suc (suc (suc (suc (suc (suc p))))))))) high v a b h k l = absurd (omega arith)

pub spell-short : (p high v full : ℕ) → full ≡ 2 ^ p - 1 → v < full → spell_int p high v ≡ (high + v) ∷ []
unfolding spell_int
spell-short p high v full e h = rw (← e, lt-ltb v full h) refl

pub spell-long : (p high v full : ℕ) → full ≡ 2 ^ p - 1 → full ≤ v → spell_int p high v ≡ (high + full) ∷ groups_of 5 (v - full)
unfolding spell_int
spell-long p high v full e h = rw (← e, le-ltb v full h) refl

-- what is read is what the octets spell
pub read-is : (n : ℕ) (octets : List ℕ) (r : Read ℕ) → r ≡ int_at n octets → IsReadOf n octets r
read-is n octets r e = subst (IsReadOf n octets) (sym e) (int_read n octets)
