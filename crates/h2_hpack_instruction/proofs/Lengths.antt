-- How long a Huffman string can be: no code has more than 30 bits.
use Rattle.std.proofs.Common.{◌≡◌, ℕ, ◌*◌, ◌≤◌, ◌<◌, ◌^◌, Bool, true, false, ◌&&◌, List, [], ◌∷◌, length, nat_le, nat_eq, refl, arith, leb-true, length-append}
use Rattle.h2_spec.specs.Hpack.Huffman.{codes, spell_huffman}
use Rattle.h2_spec.specs.Hpack.HuffmanCode.{code, code_table, code_among}
use Rattle.h2_spec.proofs.Computed.{and-left, and-right}
use Rattle.h2_spec.proofs.SpellingLaws.{length-spell_huffman}

abbrev all_short : List (ℕ × List Bool) → Bool
all_short [] = true
all_short (c ∷ cs) = nat_le (length c.1) 30 && all_short cs

each_short : all_short code_table ≡ true
unfolding code_table
each_short = refl

among-short : (cs : List (ℕ × List Bool)) (s : ℕ) → all_short cs ≡ true → length (code_among cs s) ≤ 30
among-short [] s h = omega arith
among-short (c ∷ cs) s h = at (nat_eq c.0 s) (among-short cs s (and-right (nat_le (length c.1) 30) (all_short cs) h))
  where
    at : (t : Bool) → length (code_among cs s) ≤ 30 → length {A = Bool} (elim t [ true ↦ c.1 | false ↦ code_among cs s ]) ≤ 30
    at true more = leb-true (length c.1) 30 (and-left (nat_le (length c.1) 30) (all_short cs) h)
    at false more = more

code-short : (s : ℕ) → length (code s) ≤ 30
unfolding code
code-short s = among-short code_table s each_short

codes-short : (t : List ℕ) → length (codes t) ≤ 30 * length t
unfolding codes
codes-short [] = omega arith
codes-short (s ∷ t) = omega (arith, code-short s, codes-short t, length-append (code s) (codes t))

pub string-short : (t : List ℕ) → length t ≤ 33554432 → length (spell_huffman t) < 2 ^ 32
string-short t h = omega (arith, h, codes-short t, length-spell_huffman t)
