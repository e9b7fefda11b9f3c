-- Reading an instruction on from where its octets stopped: what is known of it, and what is still to be read.
use Rattle.std.specs.Prelude.{◌≡◌, ℕ, ◌+◌, ◌≤◌, ◌<◌, Bool, false, List, [], ◌∷◌, ◌++◌, length, take, drop, nat_le, if◌then◌else◌, Result, Ok, Err}
use Rattle.h2_prim.specs.declared.integer.IntRead.{IntRead}
use Rattle.h2_prim.specs.declared.integer.IntRead.TheVariants as int
use Rattle.h2_spec.specs.Hpack.Instruction as spec
use Rattle.h2_spec.specs.Hpack.Instruction.{Str, read_past, read_then, octets_at, string_at, value_at, literal_at, instr_at}
use Rattle.h2_spec.specs.Read.{Read, Whole, More, TooLong, read_map}
use Rattle.h2_hpack_instruction.specs.Shapes.{mode_of, shape_of}
use Rattle.h2_hpack_instruction.specs.declared.shape.Known.{Known}
use Rattle.h2_hpack_instruction.specs.declared.shape.Known.TheVariants as known
use Rattle.h2_hpack_instruction.specs.declared.shape.PartialName.{PartialName}
use Rattle.h2_hpack_instruction.specs.declared.shape.PartialName.TheVariants as name
use Rattle.h2_hpack_instruction.specs.declared.shape.Point.{Point}
use Rattle.h2_hpack_instruction.specs.declared.shape.Shape.{Shape}
use Rattle.h2_hpack_instruction.specs.declared.shape.ShapeFault.{ShapeFault}
use Rattle.h2_hpack_instruction.specs.declared.shape.ShapeFault.TheVariants as cut

-- ---- what is known of an instruction, and what is still to be read

pub data Begun : Type 0 where
  -- nothing: its first integer is not whole
  Nothing : Begun
  -- a literal whose name is spelled; the length of the name comes next
  NameLength : spec.Mode → Begun
  -- the same with the length of the name; its octets come next
  NameOctets : spec.Mode → Bool → ℕ → Begun
  -- a literal and its name; the length of the value comes next
  ValueLength : spec.Mode → spec.NameRef Str → Begun
  -- the same with the length of the value; its octets come next
  ValueOctets : spec.Mode → spec.NameRef Str → Bool → ℕ → Begun

-- the instruction, from the octets after those that are known
abbrev pub read_on : Begun → List ℕ → Read spec.Shape
read_on Nothing xs = instr_at xs
read_on (NameLength mode) xs = read_then xs (read_map spec.Named (string_at xs)) (value_at mode)
read_on (NameOctets mode huffman n) xs = read_then xs (read_map spec.Named (octets_at huffman n xs)) (value_at mode)
read_on (ValueLength mode name) xs = value_at mode name xs
read_on (ValueOctets mode name huffman n) xs = read_map (spec.Literal mode name) (octets_at huffman n xs)

-- the instruction, from all its octets, where that many of them are known
abbrev pub resumed : Begun → ℕ → List ℕ → Read spec.Shape
resumed k at xs = read_past at (read_on k (drop at xs))

-- whatever comes after b, both read the same instruction
abbrev pub SameOn : List ℕ → Begun → ℕ → Begun → ℕ → Type 0
SameOn b k at k' at' = (c : List ℕ) → resumed k' at' (b ++ c) ≡ resumed k at (b ++ c)

-- b begins a literal of this mode
abbrev pub BeginsLiteral : List ℕ → spec.Mode → Type 0
BeginsLiteral b mode = (c : List ℕ) → instr_at (b ++ c) ≡ literal_at mode (b ++ c)

-- the flag of the string that the octets begin (RFC 7541, 5.2)
abbrev pub huffman_flag : List ℕ → Bool
huffman_flag [] = false
huffman_flag (o ∷ xs) = nat_le 128 o

-- ---- a point of the code

-- a name that is known by its place in the octets
abbrev pub name_at : List ℕ → PartialName → spec.NameRef Str
name_at b (name.Ref i) = spec.Ref i
name_at b (name.Named huffman start count) = spec.Named (record { huffman = huffman; octets = take count (drop start b) })

-- what is known, with the octets that it is known of
abbrev pub begun_of : List ℕ → Known → Begun
begun_of b known.Nothing = Nothing
begun_of b (known.NameLength mode) = NameLength (mode_of mode)
begun_of b (known.NameOctets mode huffman n) = NameOctets (mode_of mode) huffman n
begun_of b (known.ValueLength mode name) = ValueLength (mode_of mode) (name_at b name)
begun_of b (known.ValueOctets mode name huffman n) = ValueOctets (mode_of mode) (name_at b name) huffman n

-- the name is after the first octet, and before a place
abbrev pub IsNameBefore : ℕ → PartialName → Type 0
IsNameBefore at (name.Ref i) = 1 ≤ at
IsNameBefore at (name.Named huffman start count) = (1 ≤ start) × (start + count ≤ at)

-- what is known lies before `at`; `passed` octets are not passed again: those of whole integers, and of a string that
-- has begun
abbrev pub IsKnownBefore : ℕ → ℕ → Known → Type 0
IsKnownBefore at passed known.Nothing = (at ≡ 0) × (passed ≡ 0)
IsKnownBefore at passed (known.NameLength mode) = (1 ≤ at) × (passed ≡ at)
IsKnownBefore at passed (known.NameOctets mode huffman n) = (1 ≤ at) × (at ≤ passed) × (passed ≤ at + n)
IsKnownBefore at passed (known.ValueLength mode name) = IsNameBefore at name × (passed ≡ at)
IsKnownBefore at passed (known.ValueOctets mode name huffman n) = IsNameBefore at name × (at ≤ passed) × (passed ≤ at + n)

-- from this point, reading goes on with the instruction at the front of the octets, whatever comes after them
pub record IsPoint (b : List ℕ) (p : Point) : Type 0 where
  pub within : p.at ≤ length b
  pub known : IsKnownBefore p.at p.passed p.known
  pub same : SameOn b Nothing 0 (begun_of b p.known) p.at

-- the same where reading stopped at the end of the octets: at most five are passed again, of an integer
pub record IsRest (b : List ℕ) (p : Point) : Type 0 where
  pub point : IsPoint b p
  pub passed : p.passed ≤ length b
  pub again : length b ≤ p.passed + 5

-- ---- what is read

-- where an integer ends that begins at a place of that many octets; one that is not whole has five octets at most
abbrev pub IsIntegerAt : ℕ → ℕ → IntRead → Type 0
IsIntegerAt at all (int.Whole value used) = (0 < used) × (at + used ≤ all)
IsIntegerAt at all int.More = all ≤ at + 5
IsIntegerAt at all int.TooLong = Unit {0}

-- how many octets of an instruction are Huffman strings
abbrev pub string_octets : Str → ℕ
string_octets s = if s.huffman then length s.octets else 0

abbrev pub name_octets : spec.NameRef Str → ℕ
name_octets (spec.Ref i) = 0
name_octets (spec.Named s) = string_octets s

abbrev pub huffman_octets : spec.Shape → ℕ
huffman_octets (spec.Indexed i) = 0
huffman_octets (spec.Update n) = 0
huffman_octets (spec.Literal mode name value) = name_octets name + string_octets value

-- the whole instruction takes `used` octets, among them all that were passed before; it has more octets than its
-- Huffman strings
pub record IsTaken (b : List ℕ) (before : ℕ) (shape : spec.Shape) (used : ℕ) : Type 0 where
  pub within : used ≤ length b
  pub passed : before ≤ used
  pub huffman : huffman_octets shape < used

-- reading stopped in the instruction, and goes on from this point
pub record IsStopped (b : List ℕ) (k : Begun) (at : ℕ) (next : Point) : Type 0 where
  pub within : next.at ≤ length b
  pub known : IsKnownBefore next.at next.passed next.known
  pub passed : next.passed ≤ length b
  pub again : length b ≤ next.passed + 5
  pub same : SameOn b k at (begun_of b next.known) next.at

-- the instruction was read on from what was known of it
abbrev pub IsReadOn : List ℕ → Begun → ℕ → ℕ → Result (Shape × ℕ) ShapeFault → Type 0
IsReadOn b k at passed (Ok r) = (resumed k at b ≡ Whole (shape_of r.0) r.1) × IsTaken b passed (shape_of r.0) r.1
IsReadOn b k at passed (Err (cut.More next)) = (resumed k at b ≡ More) × IsStopped b k at next
IsReadOn b k at passed (Err cut.TooLong) = resumed k at b ≡ TooLong

-- the fact holds of the point where more octets are needed
abbrev pub IfMore : {A : Type 0} → Result A ShapeFault → (Point → Type 0) → Type 0
IfMore (Ok a) P = Unit {0}
IfMore (Err (cut.More next)) P = P next
IfMore (Err cut.TooLong) P = Unit {0}
