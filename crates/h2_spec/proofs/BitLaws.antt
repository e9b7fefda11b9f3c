-- Numbers and octets by their bits: two numbers side by side, octets joined and taken apart.
use Rattle.std.proofs.Common.{◌≡◌, ℕ, zero, suc, ◌+◌, ◌-◌, ◌*◌, ◌/◌, ◌%◌, ◌^◌, ◌<◌, ◌≤◌, Bool, true, List, [], ◌∷◌, ◌++◌, length, replicate, nat_eq, refl, ap, ◌∙◌, sym, arith, length-append, append_assoc, add-one, take, get_or}
use Rattle.std.proofs.lemmas.List.{append-nil, replicate_more, take_more}
use Rattle.std.proofs.lemmas.Nat.{pow-add, div-add-mod'}
use Rattle.std.proofs.Math.Nat.{div-lt_iff_lt-mul, mul-le-mul_right}
use Rattle.h2_spec.specs.Hpack.HuffmanCode.{bits_of}
use Rattle.h2_spec.specs.Hpack.Huffman.{bits, ones, IsText}

pub length-bits_of : (n v : ℕ) → length (bits_of n v) ≡ n
unfolding bits_of
length-bits_of zero v = refl
length-bits_of (suc n) v = omega (arith, length-append (bits_of n (v / 2)) (nat_eq (v % 2) 1 ∷ []), length-bits_of n (v / 2))

half : (a c p : ℕ) → (a * (2 * p) + c) / 2 ≡ a * p + c / 2
half a c p = grind arith

odd : (a c p : ℕ) → (a * (2 * p) + c) % 2 ≡ c % 2
odd a c p = grind arith

-- the bits of two numbers side by side
pub bits_of-add : (n k a c : ℕ) → c < 2 ^ k → bits_of (n + k) (a * 2 ^ k + c) ≡ bits_of n a ++ bits_of k c
unfolding bits_of
bits_of-add n zero a c h =
    let e : n + 0 ≡ n = omega arith in
    let f : a * 2 ^ 0 + c ≡ a = omega arith in
    rw (e, f) (sym (append-nil (bits_of n a)))
bits_of-add n (suc k) a c h =
    let e : n + suc k ≡ suc (n + k) = omega arith in
    let f : (a * (2 * 2 ^ k) + c) / 2 ≡ a * 2 ^ k + c / 2 = half a c (2 ^ k) in
    let g : (a * (2 * 2 ^ k) + c) % 2 ≡ c % 2 = odd a c (2 ^ k) in
    let p : 2 ^ suc k ≡ 2 * 2 ^ k = omega arith in
    let less : c / 2 < 2 ^ k = omega (arith, p) in
    rw (e, p) (rw (f, g) (ap (λ b. b ++ nat_eq (c % 2) 1 ∷ []) (bits_of-add n k a (c / 2) less) ∙ append_assoc (bits_of n a) (bits_of k (c / 2)) (nat_eq (c % 2) 1 ∷ [])))

-- an octet by its halves
pub bits_of-halves : (o : ℕ) → bits_of 8 o ≡ bits_of 4 (o / 16) ++ bits_of 4 (o % 16)
bits_of-halves o =
    let e : o / 16 * 2 ^ 4 + o % 16 ≡ o = omega arith in
    ap (λ v. bits_of 8 v) (sym e) ∙ bits_of-add 4 4 (o / 16) (o % 16) (omega arith)

pub pow-pos : (k : ℕ) → 0 < 2 ^ k
pow-pos zero = omega arith
pow-pos (suc k) = omega (arith, pow-pos k)

pub bits_of-full : (k : ℕ) → bits_of k (2 ^ k - 1) ≡ ones k
unfolding bits_of
bits_of-full zero = refl
bits_of-full (suc k) =
    let p : 2 ^ suc k ≡ 2 * 2 ^ k = omega arith in
    let some : 0 < 2 ^ k = pow-pos k in
    let f : (2 * 2 ^ k - 1) / 2 ≡ 2 ^ k - 1 = omega (arith, some) in
    let g : (2 * 2 ^ k - 1) % 2 ≡ 1 = omega (arith, some) in
    rw p (rw (f, g) (ap (λ b. b ++ true ∷ []) (bits_of-full k) ∙ replicate_more k true ∙ ap (λ n. replicate n true) (add-one k)))

pub bits-append : (xs ys : List ℕ) → bits (xs ++ ys) ≡ bits xs ++ bits ys
unfolding bits
bits-append [] ys = refl
bits-append (x ∷ xs) ys = ap (λ b. bits_of 8 x ++ b) (bits-append xs ys) ∙ sym (append_assoc (bits_of 8 x) (bits xs) (bits ys))

-- the bits of one octet more
pub bits-more : (os : List ℕ) (i o : ℕ) → i < length os → o ≡ get_or os i o → bits (take (i + 1) os) ≡ bits (take i os) ++ (bits_of 4 (o / 16) ++ bits_of 4 (o % 16))
unfolding bits
bits-more os i o h at =
    ap bits (take_more os i o h) ∙ bits-append (take i os) (get_or os i o ∷ []) ∙ ap (λ b. bits (take i os) ++ b) (append-nil (bits_of 8 (get_or os i o)) ∙ ap (λ v. bits_of 8 v) (sym at) ∙ bits_of-halves o)

pub octets_from : (xs : List ℕ) → ((i d : ℕ) → i < length xs → get_or xs i d < 256) → IsText xs
octets_from [] h = tt
octets_from (x ∷ xs) h = (h 0 0 (omega arith), octets_from xs (λ i d l. h (suc i) d (omega arith)))

-- the first octet of some bits, and the rest
pub record Cuts (n v : ℕ) : Type 0 where
  pub octet : v / 2 ^ n < 256
  pub left : v % 2 ^ n < 2 ^ n
  pub same : bits_of (8 + n) v ≡ bits_of 8 (v / 2 ^ n) ++ bits_of n (v % 2 ^ n)

pub cuts : (n v : ℕ) → v < 2 ^ (8 + n) → Cuts n v
cuts n v h =
    let p = 2 ^ n in
    let some : 0 < 2 ^ n = pow-pos n in
    let e : 2 ^ (8 + n) ≡ 256 * 2 ^ n = pow-add 2 8 n in
    let left : v % 2 ^ n < 2 ^ n = omega arith in
    let whole : v / 2 ^ n * 2 ^ n + v % 2 ^ n ≡ v = div-add-mod' v (2 ^ n) in
    let octet : v / 2 ^ n < 256 = (div-lt_iff_lt-mul some).1 (omega (arith, e)) in
    record { octet = octet; left = left; same = ap (bits_of (8 + n)) (sym whole) ∙ bits_of-add 8 n (v / 2 ^ n) (v % 2 ^ n) left }

pub bits-push : (os : List ℕ) (o : ℕ) → bits (os ++ o ∷ []) ≡ bits os ++ bits_of 8 o
unfolding bits
bits-push os o = bits-append os (o ∷ []) ∙ ap (λ b. bits os ++ b) (append-nil (bits_of 8 o))

-- one octet flushed
pub flushed : (os new old : List ℕ) (all : List Bool) (n v : ℕ) → v < 2 ^ (8 + n) → bits os ++ bits_of (8 + n) v ≡ all → new ≡ os ++ v / 2 ^ n ∷ [] → bits new ++ bits_of n (v % 2 ^ n) ≡ all
flushed os new old all n v h e f =
    let c = cuts n v h in
    ap (λ x. bits x ++ bits_of n (v % 2 ^ n)) f ∙ ap (λ b. b ++ bits_of n (v % 2 ^ n)) (bits-push os (v / 2 ^ n)) ∙ append_assoc (bits os) (bits_of 8 (v / 2 ^ n)) (bits_of n (v % 2 ^ n)) ∙ ap (λ b. bits os ++ b) (sym c.same) ∙ e

-- bits put after others are below their power
pub join-small : (n k a c : ℕ) → a < 2 ^ n → c < 2 ^ k → a * 2 ^ k + c < 2 ^ (n + k)
join-small n k a c h l =
    let e : 2 ^ (n + k) ≡ 2 ^ n * 2 ^ k = pow-add 2 n k in
    let m : (a + 1) * 2 ^ k ≤ 2 ^ n * 2 ^ k = mul-le-mul_right (2 ^ k) (let x : a + 1 ≤ 2 ^ n = omega arith in x) in
    omega (arith, e, m)

pub octets_all : (xs : List ℕ) → ((i : ℕ) → get_or xs i 0 < 256) → IsText xs
octets_all [] h = tt
octets_all (x ∷ xs) h = (h 0, octets_all xs (λ i. h (suc i)))
