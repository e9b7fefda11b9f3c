-- What is read at the front of octets is what the octets spell.
use Rattle.std.proofs.Common.{◌≡◌, ℕ, zero, suc, ◌+◌, ◌-◌, ◌*◌, ◌/◌, ◌%◌, ◌^◌, ◌<◌, ◌≤◌, Bool, true, false, cond, List, [], ◌∷◌, ◌++◌, length, take, refl, ap, sym, ◌∙◌, arith, ltb, ltb-true, ltb-false, lt-ltb, le-ltb, length-append}
use Rattle.std.proofs.lemmas.Nat.{pow_pos}
use Rattle.std.proofs.lemmas.List.{length-take-le, append-nil}
use Rattle.std.proofs.Math.Nat.{mod-lt, mod-add-mod, mod-eq_of_lt}
use Rattle.std.specs.List.{AllByRecursion}
use Rattle.h2_spec.specs.Read.{Read, Whole, More, TooLong}
use Rattle.h2_spec.specs.Hpack.Integer.{groups, IsContinuation, IsInt, IsUnfinished, IsTooLong, IsShortest, IsReadOf, scaled, groups_at, int_at, groups_of, spell_int}

-- the same of the groups after the prefix
abbrev GroupsRead : ℕ → List ℕ → Read ℕ → Type 0
GroupsRead most cs (Whole v used) = (used ≤ length cs) × (used ≤ most) × IsContinuation (take used cs) × (v ≡ groups (take used cs))
GroupsRead most cs More = AllByRecursion (λ c. 128 ≤ c) cs × (length cs < most)
GroupsRead most cs TooLong = (most ≤ length cs) × AllByRecursion (λ c. 128 ≤ c) (take most cs)

pub continues : (c : ℕ) (cs : List ℕ) → 128 ≤ c → IsContinuation cs → IsContinuation (c ∷ cs)
continues c [] h k = absurd k
continues c (d ∷ cs) h k = (h, k)

more_groups : (most c : ℕ) (cs : List ℕ) (r : Read ℕ) → 128 ≤ c → GroupsRead most cs r → GroupsRead (suc most) (c ∷ cs) (scaled (c % 128) 128 1 r)
more_groups most c cs (Whole v used) h k =
    let one : 1 + used ≡ suc used = omega arith in
    rw one (omega (arith, k.0), omega (arith, k.1), continues c (take used cs) h k.2, ap (λ n. c % 128 + 128 * n) k.3)
more_groups most c cs More h k = ((h, k.0), omega (arith, k.1))
more_groups most c cs TooLong h k = (omega (arith, k.0), (h, k.1))

groups_read : (most : ℕ) (cs : List ℕ) → GroupsRead most cs (groups_at most cs)
groups_read zero cs = (omega arith, tt)
groups_read (suc most) [] = (tt, omega arith)
groups_read (suc most) (c ∷ cs) = at (groups_read most cs) (ltb c 128) refl
  where
    at : GroupsRead most cs (groups_at most cs) → (t : Bool) → ltb c 128 ≡ t → GroupsRead (suc most) (c ∷ cs) (cond t (Whole c 1) (scaled (c % 128) 128 1 (groups_at most cs)))
    at more true e = let small = ltb-true c 128 e in (omega arith, omega arith, small, omega (arith, small))
    at more false e = more_groups most c cs (groups_at most cs) (ltb-false c 128 e) more

full_prefix : (n o : ℕ) → 2 ^ n - 1 ≤ o % 2 ^ n → o % 2 ^ n ≡ 2 ^ n - 1
full_prefix n o h = let below : o % 2 ^ n < 2 ^ n = mod-lt o (pow_pos n) in omega (arith, h, below)

spelled : (n o : ℕ) (cs : List ℕ) (r : Read ℕ) → o % 2 ^ n ≡ 2 ^ n - 1 → GroupsRead 5 cs r → IsReadOf n (o ∷ cs) (scaled (2 ^ n - 1) 1 1 r)
spelled n o [] (Whole v zero) e k = absurd k.2
spelled n o [] (Whole v (suc used)) e k = absurd (omega (arith, k.0))
spelled n o (c ∷ cs) (Whole v zero) e k = absurd k.2
spelled n o (c ∷ cs) (Whole v (suc used)) e k =
    let two : 1 + suc used ≡ suc (suc used) = omega arith in
    let len = length-take-le used cs (omega (arith, k.0)) in
    rw two (omega (arith, k.0), (e, k.2, omega (arith, len, k.1), omega (arith, k.3)))
spelled n o cs More e k = (e, k.0, k.1)
spelled n o cs TooLong e k = (e, k.0, k.1)

pub int_read : (n : ℕ) (xs : List ℕ) → IsReadOf n xs (int_at n xs)
unfolding int_at
int_read n [] = tt
int_read n (o ∷ cs) = at (ltb (o % 2 ^ n) (2 ^ n - 1)) refl
  where
    at : (t : Bool) → ltb (o % 2 ^ n) (2 ^ n - 1) ≡ t → IsReadOf n (o ∷ cs) (cond t (Whole (o % 2 ^ n) 1) (scaled (2 ^ n - 1) 1 1 (groups_at 5 cs)))
    at true e = (omega arith, (refl, ltb-true (o % 2 ^ n) (2 ^ n - 1) e))
    at false e = spelled n o cs (groups_at 5 cs) (full_prefix n o (ltb-false (o % 2 ^ n) (2 ^ n - 1) e)) (groups_read 5 cs)

-- what is read to its end is read so with more octets after it
abbrev pub Stays : Read ℕ → Read ℕ → Type 0
Stays (Whole v used) y = y ≡ Whole v used
Stays More y = Unit {0}
Stays TooLong y = y ≡ TooLong

scaled-stays : (base scale used : ℕ) (x y : Read ℕ) → Stays x y → Stays (scaled base scale used x) (scaled base scale used y)
scaled-stays base scale used (Whole v more) y e = ap (scaled base scale used) e
scaled-stays base scale used More y e = tt
scaled-stays base scale used TooLong y e = ap (scaled base scale used) e

groups-stays : (most : ℕ) (cs ds : List ℕ) → Stays (groups_at most cs) (groups_at most (cs ++ ds))
groups-stays zero cs ds = refl
groups-stays (suc most) [] ds = tt
groups-stays (suc most) (c ∷ cs) ds = at (groups-stays most cs ds) (ltb c 128)
  where
    at : Stays (groups_at most cs) (groups_at most (cs ++ ds)) → (t : Bool) →
        Stays (cond t (Whole c 1) (scaled (c % 128) 128 1 (groups_at most cs))) (cond t (Whole c 1) (scaled (c % 128) 128 1 (groups_at most (cs ++ ds))))
    at more true = refl
    at more false = scaled-stays (c % 128) 128 1 (groups_at most cs) (groups_at most (cs ++ ds)) more

pub int-stays : (n : ℕ) (xs ys : List ℕ) → Stays (int_at n xs) (int_at n (xs ++ ys))
unfolding int_at
int-stays n [] ys = tt
int-stays n (o ∷ cs) ys = at (ltb (o % 2 ^ n) (2 ^ n - 1))
  where
    at : (t : Bool) → Stays (cond t (Whole (o % 2 ^ n) 1) (scaled (2 ^ n - 1) 1 1 (groups_at 5 cs))) (cond t (Whole (o % 2 ^ n) 1) (scaled (2 ^ n - 1) 1 1 (groups_at 5 (cs ++ ys))))
    at true = refl
    at false = scaled-stays (2 ^ n - 1) 1 1 (groups_at 5 cs) (groups_at 5 (cs ++ ys)) (groups-stays 5 cs ys)

-- ---- what the octets spell is what is read

groups_whole : (most : ℕ) (cs ys : List ℕ) → IsContinuation cs → length cs ≤ most → groups_at most (cs ++ ys) ≡ Whole (groups cs) (length cs)
groups_whole most [] ys h k = absurd h
groups_whole zero (c ∷ cs) ys h k = absurd (omega arith)
groups_whole (suc most) (c ∷ []) ys h k =
    let value : c ≡ c % 128 + 128 * 0 = omega arith in
    rw (lt-ltb c 128 h) (ap (λ n. Whole n 1) value)
groups_whole (suc most) (c ∷ d ∷ cs) ys h k =
    let one : 1 + suc (length cs) ≡ suc (suc (length cs)) = omega arith in
    rw (le-ltb c 128 h.0) (ap (scaled (c % 128) 128 1) (groups_whole most (d ∷ cs) ys h.1 (omega arith)) ∙ ap (λ u. Whole (c % 128 + 128 * groups (d ∷ cs)) u) one)

groups_unfinished : (most : ℕ) (cs : List ℕ) → AllByRecursion (λ c. 128 ≤ c) cs → length cs < most → groups_at most cs ≡ More
groups_unfinished zero cs h k = absurd (omega arith)
groups_unfinished (suc most) [] h k = refl
groups_unfinished (suc most) (c ∷ cs) h k = rw (le-ltb c 128 h.0) (ap (scaled (c % 128) 128 1) (groups_unfinished most cs h.1 (omega arith)))

groups_too_long : (most : ℕ) (cs : List ℕ) → AllByRecursion (λ c. 128 ≤ c) (take most cs) → most ≤ length cs → groups_at most cs ≡ TooLong
groups_too_long zero cs h k = refl
groups_too_long (suc most) [] h k = absurd (omega arith)
groups_too_long (suc most) (c ∷ cs) h k = rw (le-ltb c 128 h.0) (ap (scaled (c % 128) 128 1) (groups_too_long most cs h.1 (omega arith)))

-- a full prefix leads to the groups
full : (n o : ℕ) (cs : List ℕ) (r : Read ℕ) → o % 2 ^ n ≡ 2 ^ n - 1 → groups_at 5 cs ≡ r → int_at n (o ∷ cs) ≡ scaled (2 ^ n - 1) 1 1 r
unfolding int_at
full n o cs r e g = rw (e, le-ltb (2 ^ n - 1) (2 ^ n - 1) (omega arith), g) refl

pub int_whole : (n v : ℕ) (xs ys : List ℕ) → IsInt n v xs → int_at n (xs ++ ys) ≡ Whole v (length xs)
unfolding int_at
int_whole n v [] ys h = absurd h
int_whole n v (o ∷ []) ys h = rw (h.0, lt-ltb v (2 ^ n - 1) h.1) refl
int_whole n v (o ∷ c ∷ cs) ys h =
    let value : 2 ^ n - 1 + 1 * groups (c ∷ cs) ≡ v = omega (arith, h.3) in
    let used : 1 + suc (length cs) ≡ suc (suc (length cs)) = omega arith in
    full n o (c ∷ cs ++ ys) _ h.0 (groups_whole 5 (c ∷ cs) ys h.1 (omega (arith, h.2))) ∙ rw (value, used) refl

pub int_unfinished : (n : ℕ) (xs : List ℕ) → IsUnfinished n xs → int_at n xs ≡ More
unfolding int_at
int_unfinished n [] h = refl
int_unfinished n (o ∷ cs) h = full n o cs _ h.0 (groups_unfinished 5 cs h.1 h.2)

pub int_too_long : (n : ℕ) (xs : List ℕ) → IsTooLong n xs → int_at n xs ≡ TooLong
int_too_long n [] h = absurd h
int_too_long n (o ∷ cs) h = full n o cs _ h.0 (groups_too_long 5 cs h.2 h.1)

-- no spelling begins another, and none is that of two numbers
pub one_int : (n v w : ℕ) (xs ys : List ℕ) → IsInt n v xs → IsInt n w (xs ++ ys) → (v ≡ w) × (ys ≡ [])
one_int n v w xs ys h g =
    let read : Whole v (length xs) ≡ Whole w (length (xs ++ ys)) = sym (int_whole n v xs ys h) ∙ ap (int_at n) (sym (append-nil (xs ++ ys))) ∙ int_whole n w (xs ++ ys) [] g in
    let values : v ≡ w = cc in
    let lengths : length xs ≡ length (xs ++ ys) = cc in
    (values, empty ys (omega (arith, length-append xs ys, lengths)))
  where
    empty : (zs : List ℕ) → length zs ≡ 0 → zs ≡ []
    empty [] e = refl
    empty (z ∷ zs) e = absurd (omega arith)

-- ---- the shortest spelling

-- groups that write a number, and no fewer do
record AreShortest (most v : ℕ) (cs : List ℕ) : Type 0 where
  continued : IsContinuation cs
  within : length cs ≤ most
  value : groups cs ≡ v
  shortest : (ds : List ℕ) → IsContinuation ds → groups ds ≡ v → length cs ≤ length ds

one_group : (most v : ℕ) → v < 128 → AreShortest (suc most) v (v ∷ [])
one_group most v h = record { continued = h; within = omega arith; value = omega arith; shortest = some }
  where
    some : (ds : List ℕ) → IsContinuation ds → groups ds ≡ v → 1 ≤ length ds
    some [] h e = absurd h
    some (d ∷ ds) h e = omega arith

group_more : (most v : ℕ) (cs : List ℕ) → 128 ≤ v → AreShortest most (v / 128) cs → AreShortest (suc most) v ((v % 128 + 128) ∷ cs)
group_more most v cs h r = record { continued = continues (v % 128 + 128) cs (omega arith) r.continued; within = omega (arith, r.within); value = omega (arith, r.value); shortest = some }
  where
    some : (ds : List ℕ) → IsContinuation ds → groups ds ≡ v → suc (length cs) ≤ length ds
    some [] g e = absurd g
    some (d ∷ []) g e = absurd (omega arith)
    some (d ∷ b ∷ ds) g e = let more = r.shortest (b ∷ ds) g.1 (omega arith) in omega arith

groups_of_shortest : (most v : ℕ) → v < 128 ^ suc most → AreShortest (suc most) v (groups_of (suc most) v)
groups_of_shortest zero v h = let small : v < 128 = omega arith in rw (lt-ltb v 128 small) (one_group zero v small)
groups_of_shortest (suc most) v h = at (λ g. groups_of_shortest most (v / 128) g) (ltb v 128) refl
  where
    at : (v / 128 < 128 ^ suc most → AreShortest (suc most) (v / 128) (groups_of (suc most) (v / 128))) →
        (t : Bool) → ltb v 128 ≡ t → AreShortest (suc (suc most)) v (cond t (v ∷ []) ((v % 128 + 128) ∷ groups_of (suc most) (v / 128)))
    at more true e = one_group (suc most) v (ltb-true v 128 e)
    at more false e =
        let power : 128 ^ suc (suc most) ≡ 128 * 128 ^ suc most = omega arith in
        group_more (suc most) v _ (ltb-false v 128 e) (more (omega (arith, h, power)))

-- bits above the prefix leave it as it is
low_bits : (m high v : ℕ) → high % m ≡ 0 → v < m → (high + v) % m ≡ v
low_bits m high v e h =
    let none : (0 + v) % m ≡ v = let zero_first : 0 + v ≡ v = omega arith in ap (λ n. n % m) zero_first ∙ mod-eq_of_lt h in
    sym (mod-add-mod high m v) ∙ ap (λ r. (r + v) % m) e ∙ none

-- a full prefix and shortest groups after it
prefixed : (n o v : ℕ) (cs : List ℕ) → o % 2 ^ n ≡ 2 ^ n - 1 → 2 ^ n - 1 ≤ v → AreShortest 5 (v - (2 ^ n - 1)) cs → IsShortest n v (o ∷ cs)
prefixed n o v [] e h r = absurd r.continued
prefixed n o v (c ∷ cs) e h r = record { spelled = (e, r.continued, omega (arith, r.within), omega (arith, r.value)); shortest = some }
  where
    some : (p : List ℕ) → IsInt n v p → suc (suc (length cs)) ≤ length p
    some [] g = absurd g
    some (d ∷ []) g = absurd (omega arith)
    some (d ∷ b ∷ ds) g = let more = r.shortest (b ∷ ds) g.1 (omega arith) in omega arith

pub spelled_shortest : (n high v : ℕ) → high % 2 ^ n ≡ 0 → v < 2 ^ 35 → IsShortest n v (spell_int n high v)
unfolding spell_int
spelled_shortest n high v e h = at (ltb v (2 ^ n - 1)) refl
  where
    some : (p : List ℕ) → IsInt n v p → 1 ≤ length p
    some [] g = absurd g
    some (o ∷ cs) g = omega arith

    at : (t : Bool) → ltb v (2 ^ n - 1) ≡ t → IsShortest n v (cond t ((high + v) ∷ []) ((high + (2 ^ n - 1)) ∷ groups_of 5 (v - (2 ^ n - 1))))
    at true g =
        let small = ltb-true v (2 ^ n - 1) g in
        record { spelled = (low_bits (2 ^ n) high v e (omega arith), small); shortest = some }
    at false g =
        let large = ltb-false v (2 ^ n - 1) g in
        prefixed n (high + (2 ^ n - 1)) v _ (low_bits (2 ^ n) high (2 ^ n - 1) e (omega (arith, pow_pos n))) large (groups_of_shortest 4 (v - (2 ^ n - 1)) (omega arith))

-- what is written is read back, whatever follows
pub spelled_read : (n high v : ℕ) (ys : List ℕ) → high % 2 ^ n ≡ 0 → v < 2 ^ 35 → int_at n (spell_int n high v ++ ys) ≡ Whole v (length (spell_int n high v))
spelled_read n high v ys e h = int_whole n v (spell_int n high v) ys (spelled_shortest n high v e h).spelled
