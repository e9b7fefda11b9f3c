-- Instructions of a field block and their spellings (RFC 7541, 5.2 and 6).
use Rattle.std.specs.Prelude.{◌≡◌, ℕ, zero, suc, ◌+◌, ◌^◌, ◌<◌, Bool, true, false, List, [], ◌∷◌, ◌++◌, length, take, drop, nat_le, if◌then◌else◌, Option, Some, None}
use Rattle.h2_spec.specs.Frames.Parse.{Front, Stop, One, Parsed, parse_all}
use Rattle.h2_spec.specs.Hpack.Huffman.{HuffRead, Text, Eos, Padding, IsHuffman, IsText, huffman_text, spell_huffman}
use Rattle.h2_spec.specs.Hpack.Integer.{int_at, spell_int}
use Rattle.h2_spec.specs.Read.{Read, Whole, More, TooLong, read_map}

-- ---- instructions

-- what becomes of a literal: it enters the dynamic table, or not, or must never (6.2)
pub data Mode : Type 0 where
  IncrementalIndexing : Mode
  WithoutIndexing : Mode
  NeverIndexed : Mode

-- the name of a literal: an index of the tables, or a string
pub data NameRef (S : Type 0) : Type 0 where
  Ref : ℕ → NameRef S
  Named : S → NameRef S

-- an instruction: a field of the tables, a size update, or a literal
pub data Instr (S : Type 0) : Type 0 where
  Indexed : ℕ → Instr S
  Update : ℕ → Instr S
  Literal : Mode → NameRef S → S → Instr S

-- a string as it is: whether its octets are a Huffman string, and its octets (5.2)
pub record Str : Type 0 where
  pub huffman : Bool
  pub octets : List ℕ

-- a string by its text: whether it is a Huffman string, and the octets that it means
pub record TextStr : Type 0 where
  pub huffman : Bool
  pub text : List ℕ

-- an instruction with its strings as they are, whatever their octets
abbrev pub Shape : Type 0
Shape = Instr Str

-- an instruction with the texts of its strings
abbrev pub Instruction : Type 0
Instruction = Instr TextStr

-- ---- what is at the front of octets

-- what was read after this many octets
abbrev pub read_past : {A : Type 0} → ℕ → Read A → Read A
read_past used (Whole a more) = Whole a (used + more)
read_past used More = More
read_past used TooLong = TooLong

-- one thing, and then what is read after it
abbrev pub read_then : {A B : Type 0} → List ℕ → Read A → (A → List ℕ → Read B) → Read B
read_then xs (Whole a used) behind = read_past used (behind a (drop used xs))
read_then xs More behind = More
read_then xs TooLong behind = TooLong

-- this many octets of a string
abbrev pub octets_at : Bool → ℕ → List ℕ → Read Str
octets_at huffman n xs = if nat_le n (length xs) then Whole (record { huffman = huffman; octets = take n xs }) n else More

-- the string at the front of the octets: a flag, a length, and its octets (5.2)
unfoldable pub string_at : List ℕ → Read Str
unfolding int_at
string_at [] = More
string_at (o ∷ xs) = read_then (o ∷ xs) (int_at 7 (o ∷ xs)) (octets_at (nat_le 128 o))

-- the bits of an index after each literal's mark, and the mark (6.2)
abbrev pub mode_prefix : Mode → ℕ
mode_prefix IncrementalIndexing = 6
mode_prefix WithoutIndexing = 4
mode_prefix NeverIndexed = 4

-- the bits above the prefix of a literal, by its mode (6.2)
abbrev pub mode_high : Mode → ℕ
mode_high IncrementalIndexing = 64
mode_high WithoutIndexing = 0
mode_high NeverIndexed = 16

-- index 0 means that the name is the string after it
abbrev pub name_by : ℕ → List ℕ → Read (NameRef Str)
name_by zero xs = read_map Named (string_at xs)
name_by (suc i) xs = Whole (Ref (suc i)) 0

-- the value after a name
abbrev pub value_at : Mode → NameRef Str → List ℕ → Read Shape
value_at mode name xs = read_map (Literal mode name) (string_at xs)

-- a literal: an index, a name where the index is 0, and a value
abbrev pub literal_at : Mode → List ℕ → Read Shape
literal_at mode xs = read_then xs (read_then xs (int_at (mode_prefix mode) xs) name_by) (value_at mode)

-- the instruction that this first octet announces (6.1 to 6.3)
abbrev pub instr_by : ℕ → List ℕ → Read Shape
instr_by o xs =
    if nat_le 128 o then read_map Indexed (int_at 7 xs)
    else if nat_le 64 o then literal_at IncrementalIndexing xs
    else if nat_le 32 o then read_map Update (int_at 5 xs)
    else if nat_le 16 o then literal_at NeverIndexed xs
    else literal_at WithoutIndexing xs

-- the instruction at the front of the octets, with any octets in its strings
unfoldable pub instr_at : List ℕ → Read Shape
unfolding int_at string_at
instr_at [] = More
instr_at (o ∷ xs) = instr_by o (o ∷ xs)

-- with some octets more, these are one whole instruction
pub record CanEnd (b : List ℕ) : Type 0 where
  pub more : List ℕ
  pub shape : Shape
  pub whole : instr_at (b ++ more) ≡ Whole shape (length (b ++ more))

-- ---- texts

-- the octets that a string represents
abbrev pub text_of : Str → HuffRead
text_of s = if s.huffman then huffman_text s.octets else Text s.octets

-- a string by its text
abbrev pub with_text : Bool → HuffRead → Option TextStr
with_text huffman (Text t) = Some (record { huffman = huffman; text = t })
with_text huffman Eos = None
with_text huffman Padding = None

-- the string by its text, if it has one
abbrev pub text_str : Str → Option TextStr
text_str s = with_text s.huffman (text_of s)

-- a name by its text, if it has one
abbrev pub named_text : Option TextStr → Option (NameRef TextStr)
named_text (Some t) = Some (Named t)
named_text None = None

-- the name of a literal by its text
abbrev pub name_text : NameRef Str → Option (NameRef TextStr)
name_text (Ref i) = Some (Ref i)
name_text (Named s) = named_text (text_str s)

-- a literal by its texts
abbrev pub literal_text : Mode → Option (NameRef TextStr) → Option TextStr → Option Instruction
literal_text mode (Some name) (Some value) = Some (Literal mode name value)
literal_text mode (Some name) None = None
literal_text mode None value = None

-- the instruction by its texts, if each of its strings has one
abbrev pub instruction_of : Shape → Option Instruction
instruction_of (Indexed i) = Some (Indexed i)
instruction_of (Update n) = Some (Update n)
instruction_of (Literal mode name value) = literal_text mode (name_text name) (text_str value)

-- the instruction at the front of the octets, by its texts; none where it is whole and a string of it has no text
unfoldable pub instruction_at : List ℕ → Read (Option Instruction)
unfolding instr_at huffman_text
instruction_at xs = read_map instruction_of (instr_at xs)

-- the octets of a string represent this text: as they are, or as a Huffman string of it (5.2)
abbrev pub RepresentsText : Bool → List ℕ → List ℕ → Type 0
RepresentsText true octets text = IsHuffman text octets
RepresentsText false octets text = octets ≡ text

-- a string represents this text
abbrev pub IsStringOf : Str → TextStr → Type 0
IsStringOf s t = (s.huffman ≡ t.huffman) × RepresentsText s.huffman s.octets t.text

-- a name represents this one
abbrev pub IsNameOf : NameRef Str → NameRef TextStr → Type 0
IsNameOf name (Ref i) = name ≡ Ref i
IsNameOf name (Named t) = (s : Str) × (name ≡ Named s) × IsStringOf s t

-- the shape is the instruction's, its strings representing the instruction's texts
abbrev pub IsShapeOf : Shape → Instruction → Type 0
IsShapeOf shape (Indexed i) = shape ≡ Indexed i
IsShapeOf shape (Update n) = shape ≡ Update n
IsShapeOf shape (Literal mode n v) = (name : NameRef Str) × (value : Str) × (shape ≡ Literal mode name value) × IsNameOf name n × IsStringOf value v

-- the octets are one whole spelling of the instruction
abbrev pub IsSpelling : Instruction → List ℕ → Type 0
IsSpelling i o = (shape : Shape) × (instr_at o ≡ Whole shape (length o)) × IsShapeOf shape i

-- ---- the spelling with the shortest integers

-- the octets that represent a text
abbrev pub coded : Bool → List ℕ → List ℕ
coded true text = spell_huffman text
coded false text = text

-- a string with its text as it is coded
abbrev pub coded_str : TextStr → Str
coded_str t = record { huffman = t.huffman; octets = coded t.huffman t.text }

-- a name with its text as it is coded
abbrev pub coded_name : NameRef TextStr → NameRef Str
coded_name (Ref i) = Ref i
coded_name (Named t) = Named (coded_str t)

-- the shape that an instruction is written as
abbrev pub shape_of : Instruction → Shape
shape_of (Indexed i) = Indexed i
shape_of (Update n) = Update n
shape_of (Literal mode name value) = Literal mode (coded_name name) (coded_str value)

-- the octets of a string (5.2)
abbrev pub spell_string : Bool → List ℕ → List ℕ
spell_string huffman octets = spell_int 7 (if huffman then 128 else 0) (length octets) ++ octets

-- the octets of a literal's name (6.2)
abbrev pub spell_name : Mode → NameRef Str → List ℕ
spell_name mode (Ref i) = spell_int (mode_prefix mode) (mode_high mode) i
spell_name mode (Named s) = mode_high mode ∷ spell_string s.huffman s.octets

-- the octets of a shape, each integer the shortest
unfoldable pub spell : Shape → List ℕ
unfolding spell_int
spell (Indexed i) = spell_int 7 128 i
spell (Update n) = spell_int 5 32 n
spell (Literal mode name value) = spell_name mode name ++ spell_string value.huffman value.octets

-- an index above 0, and numbers and lengths that five octets after a prefix can spell
abbrev pub IsSpellableName : NameRef Str → Type 0
IsSpellableName (Ref i) = (0 < i) × (i < 2 ^ 35)
IsSpellableName (Named s) = length s.octets < 2 ^ 35

abbrev pub IsSpellable : Shape → Type 0
IsSpellable (Indexed i) = i < 2 ^ 35
IsSpellable (Update n) = n < 2 ^ 35
IsSpellable (Literal mode name value) = IsSpellableName name × (length value.octets < 2 ^ 35)

-- the texts of an instruction are octets
abbrev pub IsNameText : NameRef TextStr → Type 0
IsNameText (Ref i) = Unit {0}
IsNameText (Named t) = IsText t.text

abbrev pub HasTexts : Instruction → Type 0
HasTexts (Indexed i) = Unit {0}
HasTexts (Update n) = Unit {0}
HasTexts (Literal mode name value) = IsNameText name × IsText value.text

-- ---- one after another

-- a whole instruction is taken
abbrev pub instr_only : Read Shape → Front (Unit {0}) Shape
instr_only (Whole i used) = One i tt used
instr_only More = Stop
instr_only TooLong = Stop

-- the shape at the front of the octets, if it is whole
abbrev pub next_shape : Unit {0} → List ℕ → Front (Unit {0}) Shape
next_shape u xs = instr_only (instr_at xs)

-- the octets as shapes and a rest that begins with none
unfoldable pub split : List ℕ → Parsed (Unit {0}) Shape
unfolding instr_at parse_all
split b = parse_all next_shape tt b

-- no whole instruction is there
abbrev pub IsNone : Read Shape → Type 0
IsNone (Whole i used) = ⊥
IsNone More = Unit {0}
IsNone TooLong = Unit {0}

-- octets are shapes in a row and a rest: each shape has its whole spelling there, and the rest begins with none
abbrev pub Splits : List ℕ → List Shape → List ℕ → Type 0
Splits b [] rest = (b ≡ rest) × IsNone (instr_at rest)
Splits b (i ∷ is) rest = (front behind : List ℕ) × (b ≡ front ++ behind) × (instr_at front ≡ Whole i (length front)) × Splits behind is rest
