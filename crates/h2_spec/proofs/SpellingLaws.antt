-- Each text has one Huffman string, which its spelling is.
use Rattle.std.proofs.Common.{◌≡◌, ℕ, zero, suc, ◌+◌, ◌-◌, ◌*◌, ◌/◌, ◌%◌, ◌^◌, ◌<◌, ◌≤◌, Bool, true, false, List, [], ◌∷◌, ◌++◌, length, refl, ap, ◌∙◌, sym, arith, length-append, drop, take, eqb, length-take}
use Rattle.std.proofs.Math.Seq.{take-add, take-append-add}
use Rattle.std.proofs.Math.Nat.{pow-le-pow_right}
use Rattle.std.proofs.lemmas.List.{length-replicate, take_at, take-replicate, length-take-le, length-drop, append_cancel_left}
use Rattle.h2_spec.specs.Hpack.HuffmanCode.{bits_of}
use Rattle.h2_spec.specs.Hpack.Huffman.{bits, codes, ones, IsText, IsHuffman, number_of_bits, octets_of_bits, filled, spell_huffman}
use Rattle.h2_spec.proofs.BitLaws.{length-bits_of, bits_of-add}

number_small : (bs : List Bool) → number_of_bits bs < 2 ^ length bs
number_small [] = omega arith
number_small (true ∷ bs) = let p : 2 ^ suc (length bs) ≡ 2 * 2 ^ length bs = omega arith in omega (arith, number_small bs, p)
number_small (false ∷ bs) = let p : 2 ^ suc (length bs) ≡ 2 * 2 ^ length bs = omega arith in omega (arith, number_small bs, p)

one_bit : bits_of 1 1 ≡ true ∷ []
unfolding bits_of
one_bit = refl

zero_bit : bits_of 1 0 ≡ false ∷ []
unfolding bits_of
zero_bit = refl

-- the bits of the number that bits write
pub number_bits : (bs : List Bool) → bits_of (length bs) (number_of_bits bs) ≡ bs
unfolding bits_of
number_bits [] = refl
number_bits (true ∷ bs) =
    let one : suc (length bs) ≡ 1 + length bs = omega arith in
    let value : 2 ^ length bs + number_of_bits bs ≡ 1 * 2 ^ length bs + number_of_bits bs = omega arith in
    ap (λ n. bits_of n (2 ^ length bs + number_of_bits bs)) one ∙ ap (λ v. bits_of (1 + length bs) v) value ∙ bits_of-add 1 (length bs) 1 (number_of_bits bs) (number_small bs)
    ∙ ap (λ b. b ++ bits_of (length bs) (number_of_bits bs)) one_bit ∙ ap (λ b. true ∷ b) (number_bits bs)
number_bits (false ∷ bs) =
    let one : suc (length bs) ≡ 1 + length bs = omega arith in
    let value : number_of_bits bs ≡ 0 * 2 ^ length bs + number_of_bits bs = omega arith in
    ap (λ n. bits_of n (number_of_bits bs)) one ∙ ap (λ v. bits_of (1 + length bs) v) value ∙ bits_of-add 1 (length bs) 0 (number_of_bits bs) (number_small bs)
    ∙ ap (λ b. b ++ bits_of (length bs) (number_of_bits bs)) zero_bit ∙ ap (λ b. false ∷ b) (number_bits bs)

number-push : (bs : List Bool) (b : Bool) → number_of_bits (bs ++ b ∷ []) ≡ 2 * number_of_bits bs + number_of_bits (b ∷ [])
number-push [] b = omega arith
number-push (true ∷ bs) b =
    let p : 2 ^ suc (length bs) ≡ 2 * 2 ^ length bs = omega arith in
    let size : length (bs ++ b ∷ []) ≡ suc (length bs) = omega (arith, length-append bs (b ∷ [])) in
    rw (size, p) (omega (arith, number-push bs b))
number-push (false ∷ bs) b = number-push bs b

last_bit : (b : ℕ) → b < 2 → number_of_bits (eqb b 1 ∷ []) ≡ b
last_bit zero h = refl
last_bit (suc zero) h = refl
last_bit (suc (suc b)) h = absurd (omega arith)

-- the number that a number's bits write
pub bits_number : (n v : ℕ) → v < 2 ^ n → number_of_bits (bits_of n v) ≡ v
unfolding bits_of
bits_number zero v h = omega arith
bits_number (suc n) v h =
    let p : 2 ^ suc n ≡ 2 * 2 ^ n = omega arith in
    omega (arith, number-push (bits_of n (v / 2)) (eqb (v % 2) 1), bits_number n (v / 2) (omega (arith, h, p)), last_bit (v % 2) (omega arith))

-- ---- bits in octets

octets_bits : (n : ℕ) (bs : List Bool) → 8 * n ≤ length bs → bits (octets_of_bits n bs) ≡ take (8 * n) bs
unfolding bits
octets_bits zero bs h = refl
octets_bits (suc n) bs h =
    let whole : 8 * suc n ≡ 8 + 8 * n = omega arith in
    let size : length (take 8 bs) ≡ 8 = length-take-le 8 bs (omega arith) in
    let first : bits_of 8 (number_of_bits (take 8 bs)) ≡ take 8 bs = ap (λ k. bits_of k (number_of_bits (take 8 bs))) (sym size) ∙ number_bits (take 8 bs) in
    let more : bits (octets_of_bits n (drop 8 bs)) ≡ take (8 * n) (drop 8 bs) = octets_bits n (drop 8 bs) (omega (arith, length-drop 8 bs)) in
    ap (λ b. b ++ bits (octets_of_bits n (drop 8 bs))) first ∙ ap (λ b. take 8 bs ++ b) more ∙ sym (take-add 8 (8 * n) bs) ∙ ap (λ k. take k bs) (sym whole)

length-octets_of_bits : (n : ℕ) (bs : List Bool) → length (octets_of_bits n bs) ≡ n
length-octets_of_bits zero bs = refl
length-octets_of_bits (suc n) bs = ap suc (length-octets_of_bits n (drop 8 bs))

octets_small : (n : ℕ) (bs : List Bool) → IsText (octets_of_bits n bs)
octets_small zero bs = tt
octets_small (suc n) bs =
    let few : length (take 8 bs) ≤ 8 = omega (arith, length-take {A = Bool}) in
    let positive : 0 < 2 = omega arith in
    let power : 2 ^ length (take 8 bs) ≤ 2 ^ 8 = pow-le-pow_right positive few in
    (omega (arith, number_small (take 8 bs), power), octets_small n (drop 8 bs))

-- how many ones fill the last octet
abbrev missing : ℕ → ℕ
missing n = 8 * ((n + 7) / 8) - n

filled_bits : (bs : List Bool) → bits (filled bs) ≡ bs ++ ones (missing (length bs))
filled_bits bs =
    let n = (length bs + 7) / 8 in
    let long : 8 * n ≤ length (bs ++ ones 7) = omega (arith, length-append bs (ones 7)) in
    let whole : 8 * n ≡ length bs + missing (length bs) = omega arith in
    let few : missing (length bs) ≤ 7 = omega arith in
    octets_bits n (bs ++ ones 7) long ∙ ap (λ k. take k (bs ++ ones 7)) whole ∙ take-append-add bs (ones 7) (missing (length bs)) ∙ ap (λ b. bs ++ b) (take-replicate (missing (length bs)) 7 true few)

-- ---- the spelling of a text

spelling-is : (t : List ℕ) → spell_huffman t ≡ filled (codes t)
unfolding spell_huffman
spelling-is t = refl

spelling_bits : (t : List ℕ) → bits (spell_huffman t) ≡ codes t ++ ones (missing (length (codes t)))
spelling_bits t = ap bits (spelling-is t) ∙ filled_bits (codes t)

pub spelled : (t : List ℕ) → IsText t → IsHuffman t (spell_huffman t)
spelled t h = record {
  text = h;
  padding = missing (length (codes t));
  short = omega arith;
  spelled = spelling_bits t;
}

pub spelling_octets : (t : List ℕ) → IsText (spell_huffman t)
spelling_octets t = rw spelling-is (octets_small ((length (codes t) + 7) / 8) (codes t ++ ones 7))

pub length-spell_huffman : (t : List ℕ) → length (spell_huffman t) ≡ (length (codes t) + 7) / 8
length-spell_huffman t = rw spelling-is (length-octets_of_bits ((length (codes t) + 7) / 8) (codes t ++ ones 7))

pub length-bits : (o : List ℕ) → length (bits o) ≡ 8 * length o
unfolding bits
length-bits [] = refl
length-bits (x ∷ o) = omega (arith, length-append (bits_of 8 x) (bits o), length-bits_of 8 x, length-bits o)

-- octets with the same bits are the same
same_bits : (o p : List ℕ) → IsText o → IsText p → bits o ≡ bits p → o ≡ p
unfolding bits
same_bits [] [] h k e = refl
same_bits [] (y ∷ p) h k e = absurd (omega (arith, ap length e, length-append (bits_of 8 y) (bits p), length-bits_of 8 y))
same_bits (x ∷ o) [] h k e = absurd (omega (arith, ap length e, length-append (bits_of 8 x) (bits o), length-bits_of 8 x))
same_bits (x ∷ o) (y ∷ p) h k e =
    let first : bits_of 8 x ≡ bits_of 8 y = sym (take_at (bits_of 8 x) (bits o) 8 (length-bits_of 8 x)) ∙ ap (take 8) e ∙ take_at (bits_of 8 y) (bits p) 8 (length-bits_of 8 y) in
    let octet : x ≡ y = sym (bits_number 8 x (omega arith)) ∙ ap number_of_bits first ∙ bits_number 8 y (omega arith) in
    let rest : bits o ≡ bits p = append_cancel_left (bits_of 8 y) (bits o) (bits p) (ap (λ b. b ++ bits o) (sym first) ∙ e) in
    let more : o ≡ p = same_bits o p h.1 k.1 rest in
    cc

-- a text has no other string
pub one_spelling : (t o : List ℕ) → IsText o → IsHuffman t o → o ≡ spell_huffman t
one_spelling t o h k =
    let octets : 8 * length o ≡ length (codes t) + k.padding = omega (arith, ap length k.spelled, length-bits o, length-append (codes t) (ones k.padding), length-replicate k.padding true) in
    let fill : k.padding ≡ missing (length (codes t)) = omega (arith, k.short) in
    same_bits o (spell_huffman t) h (spelling_octets t) (k.spelled ∙ ap (λ n. codes t ++ ones n) fill ∙ sym (spelling_bits t))
