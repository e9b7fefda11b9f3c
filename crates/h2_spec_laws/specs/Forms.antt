-- The five forms of an instruction (RFC 7541, 6), as octets are written out of integers (5.1) and strings (5.2);
-- nothing here reads.
use Rattle.std.specs.Prelude.{◌≡◌, ℕ, ◌/◌, ◌^◌, ◌<◌, Bool, true, false, List, [], ◌∷◌, ◌++◌, length}
use Rattle.h2_spec.specs.Hpack.Integer.{IsInt}
use Rattle.h2_spec.specs.Hpack.Instruction.{Mode, IncrementalIndexing, WithoutIndexing, NeverIndexed, NameRef, Ref, Named, Indexed, Update, Literal, Str, Shape, Instruction, IsShapeOf}

-- the bits of the first octet above its lowest n are these
abbrev pub IsMarked : ℕ → ℕ → List ℕ → Type 0
IsMarked n bits [] = ⊥
IsMarked n bits (o ∷ os) = o / 2 ^ n ≡ bits

-- an integer with a prefix of n bits, and these bits above it (5.1)
abbrev pub IsMarkedInt : ℕ → ℕ → ℕ → List ℕ → Type 0
IsMarkedInt n bits v octets = IsMarked n bits octets × IsInt n v octets

-- H: 1 before a Huffman string (5.2)
abbrev pub huffman_bit : Bool → ℕ
huffman_bit true = 1
huffman_bit false = 0

-- a string: H, its length with a prefix of 7 bits, and that many octets (5.2)
pub record IsString (s : Str) (octets : List ℕ) : Type 0 where
  pub size : List ℕ
  pub spelled : octets ≡ size ++ s.octets
  pub sized : IsMarkedInt 7 (huffman_bit s.huffman) (length s.octets) size

-- literals begin with 01, and an index with a prefix of 6 bits, where they enter the table; with 0000, or with 0001
-- where they never may, and one of 4 bits where they do not (6.2.1 to 6.2.3)
abbrev pub index_bits : Mode → ℕ
index_bits IncrementalIndexing = 6
index_bits WithoutIndexing = 4
index_bits NeverIndexed = 4

abbrev pub literal_mark : Mode → ℕ
literal_mark IncrementalIndexing = 1
literal_mark WithoutIndexing = 0
literal_mark NeverIndexed = 1

-- the name of a literal: an index above 0, or index 0 and a string
abbrev pub IsName : Mode → NameRef Str → List ℕ → Type 0
IsName mode (Ref i) octets = (0 < i) × IsMarkedInt (index_bits mode) (literal_mark mode) i octets
IsName mode (Named s) octets = (index string : List ℕ) × (octets ≡ index ++ string) × IsMarkedInt (index_bits mode) (literal_mark mode) 0 index × IsString s string

-- the five forms: 1 and an index (6.1); the three literals, each a name and a value (6.2); 001 and a maximum (6.3)
abbrev pub IsForm : Shape → List ℕ → Type 0
IsForm (Indexed i) octets = IsMarkedInt 7 1 i octets
IsForm (Update n) octets = IsMarkedInt 5 1 n octets
IsForm (Literal mode name value) octets = (front behind : List ℕ) × (octets ≡ front ++ behind) × IsName mode name front × IsString value behind

-- a form of the instruction with these texts, its strings as they are or in the Huffman code (5.2)
abbrev pub IsFormOf : Instruction → List ℕ → Type 0
IsFormOf i octets = (shape : Shape) × IsForm shape octets × IsShapeOf shape i
