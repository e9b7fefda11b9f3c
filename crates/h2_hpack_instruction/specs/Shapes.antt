-- What the code reads, as the definitions' shapes.
use Rattle.std.specs.Prelude.{ℕ, ◌-◌, ◌&&◌, List, [], ◌∷◌, nat_le, nat_lt, if◌then◌else◌, Option, Some, None, Result, Ok, Err}
use Rattle.h2_hpack_instruction.specs.declared.instruction.Mode.{Mode}
use Rattle.h2_hpack_instruction.specs.declared.instruction.Mode.TheVariants as mode
use Rattle.h2_hpack_instruction.specs.declared.shape.ShapeFault.{ShapeFault}
use Rattle.h2_hpack_instruction.specs.declared.shape.ShapeFault.TheVariants as cut
use Rattle.h2_hpack_instruction.specs.declared.shape.RawString.{RawString}
use Rattle.h2_hpack_instruction.specs.declared.shape.RawName.{RawName}
use Rattle.h2_hpack_instruction.specs.declared.shape.RawName.TheVariants as name
use Rattle.h2_hpack_instruction.specs.declared.shape.Shape.{Shape}
use Rattle.h2_hpack_instruction.specs.declared.shape.Shape.TheVariants as shape
use Rattle.h2_spec.specs.Hpack.Instruction as spec
use Rattle.h2_spec.specs.Read.{Read, Whole, More, TooLong}

abbrev pub mode_of : Mode → spec.Mode
mode_of mode.IncrementalIndexing = spec.IncrementalIndexing
mode_of mode.WithoutIndexing = spec.WithoutIndexing
mode_of mode.NeverIndexed = spec.NeverIndexed

abbrev pub string_of : RawString → spec.Str
string_of s = record { huffman = s.huffman; octets = s.octets.now }

abbrev pub name_of : RawName → spec.NameRef spec.Str
name_of (name.Ref i) = spec.Ref i
name_of (name.Named s) = spec.Named (string_of s)

abbrev pub shape_of : Shape → spec.Shape
shape_of (shape.Indexed i) = spec.Indexed i
shape_of (shape.Update n) = spec.Update n
shape_of (shape.Literal m n v) = spec.Literal (mode_of m) (name_of n) (string_of v)

-- a thing and how many octets it takes, or why there is none
abbrev pub read_of : {X Y : Type 0} → (X → Y) → Result (X × ℕ) ShapeFault → Read Y
read_of view (Ok r) = Whole (view r.0) r.1
read_of view (Err (cut.More next)) = More
read_of view (Err cut.TooLong) = TooLong

-- the index of a field of the tables whose instruction is the first octet alone (RFC 7541, 5.1 and 6.1)
abbrev pub short_index : List ℕ → Option ℕ
short_index [] = None
short_index (o ∷ xs) = if nat_le 128 o && nat_lt o 255 then Some (o - 128) else None
