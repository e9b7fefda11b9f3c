-- Writing: the bits held and the octets appended, one code more, one octet out, and the last octet.
use Rattle.std.proofs.Common.{◌≡◌, ℕ, ◌+◌, ◌-◌, ◌*◌, ◌/◌, ◌%◌, ◌^◌, ◌<◌, ◌≤◌, List, [], ◌∷◌, ◌++◌, length, take, get_or, refl, ap, sym, subst, ◌∙◌, arith, length-append, append_assoc, Bool}
use Rattle.std.proofs.lemmas.List.{append-nil, take_more}
use Rattle.std.proofs.lemmas.List.Folds.{length-flat_map-take}
use Rattle.h2_spec.specs.Hpack.HuffmanCode.{bits_of, code}
use Rattle.h2_spec.specs.Hpack.Huffman.{bits, codes, ones, IsText, spell_huffman}
use Rattle.h2_spec.proofs.BitLaws.{length-bits_of, bits_of-add, bits_of-full, pow-pos, cuts, bits-push, join-small}
use Rattle.h2_spec.proofs.HuffmanLaws.{codes-push}
use Rattle.h2_spec.proofs.SpellingLaws.{one_spelling}
use Rattle.h2_prim.specs.Written.{Written}

no_bits : bits_of 0 0 ≡ []
unfolding bits_of
no_bits = refl

pub begun : (before : List ℕ) → Written before before 0 0 (codes [])
unfolding bits codes
begun before = record { added = []; octets = tt; grown = sym (append-nil before); same = no_bits }

text-push : (t : List ℕ) (o : ℕ) → IsText t → o < 256 → IsText (t ++ o ∷ [])
text-push [] o h k = (k, tt)
text-push (s ∷ t) o h k = (h.0, text-push t o h.1 k)

-- one octet out
pub flushed : (before out new : List ℕ) (n v : ℕ) (bs : List Bool) → v < 2 ^ (8 + n) → new ≡ out ++ v / 2 ^ n ∷ [] → Written before out (8 + n) v bs → Written before new n (v % 2 ^ n) bs
flushed before out new n v bs h e w =
    let c = cuts n v h in
    record {
      added = w.added ++ v / 2 ^ n ∷ [];
      octets = text-push w.added (v / 2 ^ n) w.octets c.octet;
      grown = e ∙ ap (λ x. x ++ v / 2 ^ n ∷ []) w.grown ∙ append_assoc before w.added (v / 2 ^ n ∷ []);
      same =
          ap (λ b. b ++ bits_of n (v % 2 ^ n)) (bits-push w.added (v / 2 ^ n)) ∙ append_assoc (bits w.added) (bits_of 8 (v / 2 ^ n)) (bits_of n (v % 2 ^ n))
          ∙ ap (λ b. bits w.added ++ b) (sym c.same) ∙ w.same;
    }

-- one code more
pub joined : (before out text : List ℕ) (i n k b v : ℕ) → v < 2 ^ k → bits_of k v ≡ code (get_or text i 0) → i < length text → Written before out n b (codes (take i text)) →
    Written before out (n + k) (b * 2 ^ k + v) (codes (take (i + 1) text))
joined before out text i n k b v small spelled h w = record {
  added = w.added;
  octets = w.octets;
  grown = w.grown;
  same =
      ap (λ x. bits w.added ++ x) (bits_of-add n k b v small) ∙ sym (append_assoc (bits w.added) (bits_of n b) (bits_of k v)) ∙ ap (λ x. x ++ bits_of k v) w.same
      ∙ ap (λ x. codes (take i text) ++ x) spelled ∙ sym (codes-push (take i text) (get_or text i 0)) ∙ ap codes (sym (take_more text i 0 h));
}

-- the bits so far, and those of one code more
pub counted : (text : List ℕ) (i k v : ℕ) → i < length text → bits_of k v ≡ code (get_or text i 0) → length (codes (take i text)) + k ≡ length (codes (take (i + 1) text))
counted text i k v h spelled =
    let size : length (code (get_or text i 0)) ≡ k = ap length (sym spelled) ∙ length-bits_of k v in
    let more : codes (take (i + 1) text) ≡ codes (take i text) ++ code (get_or text i 0) = ap codes (take_more text i 0 h) ∙ codes-push (take i text) (get_or text i 0) in
    omega (arith, size, ap length more, length-append (codes (take i text)) (code (get_or text i 0)))

-- are no more than all of them
pub counted_within : (text : List ℕ) (i k v : ℕ) → i < length text → bits_of k v ≡ code (get_or text i 0) → length (codes (take i text)) + k ≤ length (codes text)
unfolding codes
counted_within text i k v h spelled =
    let size : length (code (get_or text i 0)) ≡ k = ap length (sym spelled) ∙ length-bits_of k v in
    omega (arith, size, length-flat_map-take code text i 0 h)

-- the last octet, filled with ones
pub closed : (before out new text : List ℕ) (n b k : ℕ) → IsText text → 0 < n → 8 ≡ n + k → b < 2 ^ n → new ≡ out ++ (b * 2 ^ k + (2 ^ k - 1)) ∷ [] → Written before out n b (codes text) → new ≡ before ++ spell_huffman text
closed before out new text n b k h some e small f w =
    let fill : 2 ^ k - 1 < 2 ^ k = let p = pow-pos k in omega arith in
    let octet = b * 2 ^ k + (2 ^ k - 1) in
    let P : ℕ → Type 0 = λ m. octet < 2 ^ m in
    let below : octet < 2 ^ 8 = subst P (sym e) (join-small n k b (2 ^ k - 1) small fill) in
    let spelled : bits_of 8 octet ≡ bits_of n b ++ ones k = ap (λ m. bits_of m octet) e ∙ bits_of-add n k b (2 ^ k - 1) fill ∙ ap (λ x. bits_of n b ++ x) (bits_of-full k) in
    let added : w.added ++ octet ∷ [] ≡ spell_huffman text =
    one_spelling text (w.added ++ octet ∷ []) (text-push w.added octet w.octets (omega arith)) (record {
      text = h;
      padding = k;
      short = omega arith;
      spelled =
          bits-push w.added octet ∙ ap (λ x. bits w.added ++ x) spelled ∙ sym (append_assoc (bits w.added) (bits_of n b) (ones k)) ∙ ap (λ x. x ++ ones k) w.same;
    }) in
    f ∙ ap (λ x. x ++ octet ∷ []) w.grown ∙ append_assoc before w.added (octet ∷ []) ∙ ap (λ x. before ++ x) added

-- nothing is left
pub closed_now : (before out text : List ℕ) (n b : ℕ) → IsText text → n ≡ 0 → Written before out n b (codes text) → out ≡ before ++ spell_huffman text
unfolding bits_of
closed_now before out text n b h e w =
    let empty : bits_of n b ≡ [] = ap (λ m. bits_of m b) e in
    let added : w.added ≡ spell_huffman text =
    one_spelling text w.added w.octets (record {
      text = h;
      padding = 0;
      short = omega arith;
      spelled = sym (append-nil (bits w.added)) ∙ ap (λ x. bits w.added ++ x) (sym empty) ∙ w.same ∙ sym (append-nil (codes text));
    }) in
    w.grown ∙ ap (λ x. before ++ x) added
