-- Huffman strings: what text they represent, and how a text is written (RFC 7541, 5.2).
use Rattle.std.specs.Prelude.{◌≡◌, ℕ, zero, suc, ◌+◌, ◌/◌, ◌^◌, ◌<◌, ◌≤◌, Bool, true, false, ◌&&◌, List, [], ◌∷◌, ◌++◌, length, take, drop, replicate, nat_le, nat_eq, flat_map, Option, Some, None}
use Rattle.std.specs.List.{AllByRecursion, list_all}
use Rattle.h2_spec.specs.Hpack.HuffmanCode.{bits_of, code, code_table, end_of_string}

-- the numbers are octets
abbrev pub IsText : List ℕ → Type 0
IsText t = AllByRecursion (λ c. c < 256) t

-- the bits of octets in a row
unfoldable pub bits : List ℕ → List Bool
bits xs = flat_map (bits_of 8) xs

-- the codes of symbols in a row
unfoldable pub codes : List ℕ → List Bool
codes t = flat_map code t

-- this many bits that are ones
abbrev pub ones : ℕ → List Bool
ones count = replicate count true

-- the octets are the codes of the text joined, and then at most seven ones
pub record IsHuffman (t o : List ℕ) : Type 0 where
  pub text : IsText t
  pub padding : ℕ
  pub short : padding ≤ 7
  pub spelled : bits o ≡ codes t ++ ones padding

-- the bits of the octets begin with codes and then the whole code of the end of a string
pub record HasEos (o : List ℕ) : Type 0 where
  pub text : List ℕ
  pub is_text : IsText text
  pub rest : List Bool
  pub spelled : bits o ≡ codes text ++ (code end_of_string ++ rest)

-- the octets are no text, and no end of a string is in them: a rest that is no code is too long or has a zero in it
pub record IsPadding (o : List ℕ) : Type 0 where
  pub no_text : (t : List ℕ) → IsHuffman t o → ⊥
  pub no_eos : HasEos o → ⊥

-- what a Huffman string represents
pub data HuffRead : Type 0 where
  Text : List ℕ → HuffRead
  Eos : HuffRead
  Padding : HuffRead

-- what an answer says of the octets
abbrev pub IsDecodingOf : List ℕ → HuffRead → Type 0
IsDecodingOf o (Text t) = IsHuffman t o
IsDecodingOf o Eos = HasEos o
IsDecodingOf o Padding = IsPadding o

-- the bits after a code, where they begin with it
abbrev pub behind_code : List Bool → List Bool → Option (List Bool)
behind_code [] bs = Some bs
behind_code (c ∷ cs) [] = None
behind_code (true ∷ cs) (true ∷ bs) = behind_code cs bs
behind_code (true ∷ cs) (false ∷ bs) = None
behind_code (false ∷ cs) (true ∷ bs) = None
behind_code (false ∷ cs) (false ∷ bs) = behind_code cs bs

-- the symbol whose code the bits begin with, and the bits after it
abbrev pub symbol_among : List (ℕ × List Bool) → List Bool → Option (ℕ × List Bool)
symbol_among [] bs = None
symbol_among (c ∷ cs) bs = elim (behind_code c.1 bs) [ Some rest ↦ Some (c.0, rest) | None ↦ symbol_among cs bs ]

-- what precedes the text of the rest
abbrev pub after : ℕ → HuffRead → HuffRead
after s (Text t) = Text (s ∷ t)
after s Eos = Eos
after s Padding = Padding

-- at most seven ones
abbrev pub are_few_ones : List Bool → Bool
are_few_ones bs = nat_le (length bs) 7 && list_all (λ b. b) bs

-- decoding from the left with a table of codes, at most this many symbols
abbrev pub text_upto : ℕ → List (ℕ × List Bool) → List Bool → HuffRead
text_upto zero table bs = elim (are_few_ones bs) [ true ↦ Text [] | false ↦ Padding ]
text_upto (suc more) table bs = elim (symbol_among table bs) [
  | None ↦ elim (are_few_ones bs) [ true ↦ Text [] | false ↦ Padding ]
  | Some found ↦ elim (nat_eq found.0 end_of_string) [ true ↦ Eos | false ↦ after found.0 (text_upto more table found.1) ]
]

-- the text of a Huffman string, or why it has none; a code has a bit or more
unfoldable pub huffman_text : List ℕ → HuffRead
unfolding bits bits_of code_table
huffman_text o = text_upto (length (bits o)) code_table (bits o)

-- the number that bits write, the highest first
abbrev pub number_of_bits : List Bool → ℕ
number_of_bits [] = 0
number_of_bits (true ∷ bs) = 2 ^ length bs + number_of_bits bs
number_of_bits (false ∷ bs) = number_of_bits bs

-- the first octets that bits write, this many
abbrev pub octets_of_bits : ℕ → List Bool → List ℕ
octets_of_bits zero bs = []
octets_of_bits (suc more) bs = number_of_bits (take 8 bs) ∷ octets_of_bits more (drop 8 bs)

-- the codes' bits in octets, the last one filled with ones
abbrev pub filled : List Bool → List ℕ
filled bs = octets_of_bits ((length bs + 7) / 8) (bs ++ ones 7)

-- the Huffman string of a text
unfoldable pub spell_huffman : List ℕ → List ℕ
unfolding codes code
spell_huffman t = filled (codes t)
