-- What a script says: a line says a statement, and a statement represents octets.
use Rattle.std.specs.Prelude.{◌≡◌, ◌≢◌, ◌⊎◌, ℕ, ◌+◌, ◌-◌, ◌^◌, ◌<◌, ◌≤◌, ◌==◌, ◌&&◌, ◌||◌, not, nat_le, Bool, true, false, IsTrue, List, [], ◌∷◌, ◌++◌, length, codes, flat_map, if◌then◌else◌, Option, Some, None, Result, Ok, Err, slice_get, take, drop, option_map, position}
use Rattle.std.specs.List.{AllByRecursion, before_first, slice_split}
use Rattle.std.specs.Str.Parse.{IsNumeral, digits_value}
use Rattle.hex.specs.Hex.{decode_of}
use Rattle.h2_spec.specs.Frames.FrameType.{type_names}
use Rattle.h2_spec.specs.Frames.Frame.{preface}
use Rattle.h2_spec.specs.Hpack.Instruction.{Instruction, Indexed, Update, Literal, Mode, IncrementalIndexing, WithoutIndexing, NeverIndexed, NameRef, Ref, Named, TextStr, shape_of, spell}
use Rattle.h2_spec.specs.Octets.{big_endian}
use Rattle.h2_spec.specs.declared.scripts.SyntaxKind.{SyntaxKind}
use Rattle.h2_spec.specs.declared.scripts.SyntaxKind.TheVariants as kind

-- ---- what can be said

-- a payload: octets, settings as identifier and value, a window's increment, an error code, or instructions, whose
-- strings are texts
pub data Payload : Type 0 where
  Empty : Payload
  Octets : List ℕ → Payload
  Pairs : List (ℕ × ℕ) → Payload
  Increment : ℕ → Payload
  Code : ℕ → Payload
  Instructions : List Instruction → Payload

-- a line: nothing, the client's preface, octets as they are, or a frame by its type, flags, stream, reserved bit and
-- payload
pub data Statement : Type 0 where
  Nothing : Statement
  Preface : Statement
  Raw : List ℕ → Statement
  AFrame : (kind flags stream : ℕ) → (reserved : Bool) → Payload → Statement

-- ---- the octets that it represents

-- a setting's identifier and value (RFC 9113, 6.5.1)
abbrev pub setting_octets : ℕ × ℕ → List ℕ
setting_octets p = big_endian 2 p.0 ++ big_endian 4 p.1

-- an instruction with the shortest integers (RFC 7541, 6)
abbrev pub instruction_octets : Instruction → List ℕ
instruction_octets i = spell (shape_of i)

-- the octets of a payload
abbrev pub payload_octets : Payload → List ℕ
payload_octets Empty = []
payload_octets (Octets octets) = octets
payload_octets (Pairs pairs) = flat_map setting_octets pairs
payload_octets (Increment n) = big_endian 4 n
payload_octets (Code n) = big_endian 4 n
payload_octets (Instructions instructions) = flat_map instruction_octets instructions

-- the last four octets of a head, the reserved bit above the stream's identifier (RFC 9113, 4.1)
abbrev pub stream_octets : ℕ → Bool → List ℕ
stream_octets stream reserved = big_endian 4 (if reserved then 2 ^ 31 + stream else stream)

-- the octets that a statement represents
abbrev pub octets_of : Statement → List ℕ
octets_of Nothing = []
octets_of Preface = preface
octets_of (Raw octets) = octets
octets_of (AFrame kind flags stream reserved payload) =
    big_endian 3 (length (payload_octets payload)) ++ kind ∷ flags ∷ (stream_octets stream reserved ++ payload_octets payload)

-- ---- words: numbers, octets, strings

-- hex digits of either case, two for each octet
abbrev pub SaysOctets : List ℕ → List ℕ → Type 0
SaysOctets text octets = decode_of text ≡ Ok octets

-- two hex digits
abbrev pub SaysOctet : List ℕ → ℕ → Type 0
SaysOctet text n = SaysOctets text (n ∷ [])

-- the same, at least one octet
abbrev pub SaysSomeOctets : List ℕ → List ℕ → Type 0
SaysSomeOctets text octets = (0 < length octets) × SaysOctets text octets

-- 1 to 10 decimal digits, leading zeros allowed, of a number that is at most the limit
abbrev pub SaysNumber : ℕ → List ℕ → ℕ → Type 0
SaysNumber most text n = IsNumeral 10 text × (length text ≤ 10) × (n ≡ digits_value 10 text) × (n ≤ most)

-- the largest number of 32 bits
abbrev pub max_u32 : ℕ
max_u32 = 2 ^ 32 - 1

-- the largest identifier of a stream (RFC 9113, 4.1)
abbrev pub max_stream : ℕ
max_stream = 2 ^ 31 - 1

-- a printable ASCII octet other than a quote of either kind and the backslash
abbrev pub is_plain : ℕ → Bool
is_plain c = nat_le 0x20 c && nat_le c 0x7e && not (c == 34 || c == 39 || c == 92)

-- an octet in a string: itself, or a backslash and two hex digits
abbrev pub SaysCharacter : List ℕ → ℕ → Type 0
SaysCharacter text c = ((text ≡ c ∷ []) × IsTrue (is_plain c)) ⊎ ((digits : List ℕ) × (text ≡ 92 ∷ digits) × SaysOctet digits c)

-- the characters of a text, one after another
abbrev pub SaysText : List ℕ → List ℕ → Type 0
SaysText text [] = text ≡ []
SaysText text (c ∷ cs) = (first rest : List ℕ) × (text ≡ first ++ rest) × SaysCharacter first c × SaysText rest cs

-- a string is between double quotes, or between single quotes where it is to be coded by Huffman
abbrev pub quote_of : Bool → ℕ
quote_of huffman = if huffman then 39 else 34

-- a text between its quotes
abbrev pub SaysString : List ℕ → TextStr → Type 0
SaysString text s = (inside : List ℕ) × (text ≡ quote_of s.huffman ∷ (inside ++ quote_of s.huffman ∷ [])) × SaysText inside s.text

-- ---- instructions

-- the name of a literal: an index of 1 or more, or a string
abbrev pub SaysName : List ℕ → NameRef TextStr → Type 0
SaysName text (Ref i) = SaysNumber max_u32 text i × (0 < i)
SaysName text (Named s) = SaysString text s

-- a, n and v: with indexing, without, and never
abbrev pub mode_letter : Mode → ℕ
mode_letter IncrementalIndexing = 97
mode_letter WithoutIndexing = 110
mode_letter NeverIndexed = 118

-- i and an index, u and a table size, or a literal: its mode, its name, an equals sign, its value
abbrev pub SaysInstruction : List ℕ → Instruction → Type 0
SaysInstruction text (Indexed i) = (digits : List ℕ) × (text ≡ 105 ∷ digits) × SaysNumber max_u32 digits i
SaysInstruction text (Update n) = (digits : List ℕ) × (text ≡ 117 ∷ digits) × SaysNumber max_u32 digits n
SaysInstruction text (Literal mode name value) = (a b : List ℕ) × (text ≡ mode_letter mode ∷ (a ++ 61 ∷ b)) × SaysName a name × SaysString b value

-- identifier, equals sign, value
abbrev pub SaysSetting : List ℕ → ℕ × ℕ → Type 0
SaysSetting text p = (a b : List ℕ) × (text ≡ a ++ 61 ∷ b) × SaysNumber 65535 a p.0 × SaysNumber max_u32 b p.1

-- at least one, with commas between
abbrev pub SaysEach : {A : Type 0} → (List ℕ → A → Type 0) → List ℕ → List A → Type 0
SaysEach Says text [] = ⊥
SaysEach Says text (x ∷ []) = Says text x
SaysEach Says text (x ∷ y ∷ ys) = (first rest : List ℕ) × (text ≡ first ++ 44 ∷ rest) × Says first x × SaysEach Says rest (y ∷ ys)

-- ---- payloads, frames, lines

-- the text of a payload, by the letter of its form
abbrev pub SaysPayload : List ℕ → Payload → Type 0
SaysPayload text Empty = text ≡ codes "-"
SaysPayload text (Octets octets) = (digits : List ℕ) × (text ≡ 120 ∷ digits) × SaysSomeOctets digits octets
SaysPayload text (Pairs pairs) = (each : List ℕ) × (text ≡ 115 ∷ each) × SaysEach SaysSetting each pairs
SaysPayload text (Increment n) = (digits : List ℕ) × (text ≡ 119 ∷ digits) × SaysNumber max_stream digits n
SaysPayload text (Code n) = (digits : List ℕ) × (text ≡ 99 ∷ digits) × SaysNumber max_u32 digits n
SaysPayload text (Instructions instructions) = (each : List ℕ) × (text ≡ 104 ∷ each) × SaysEach SaysInstruction each instructions

-- a frame type: its name, or T and two hex digits
abbrev pub SaysType : List ℕ → ℕ → Type 0
SaysType text kind = (slice_get type_names kind ≡ Some text) ⊎ ((digits : List ℕ) × (text ≡ 84 ∷ digits) × SaysOctet digits kind)

-- a stream's identifier, and an R after it where the reserved bit is set
abbrev pub SaysStream : List ℕ → ℕ → Bool → Type 0
SaysStream text stream false = SaysNumber max_stream text stream
SaysStream text stream true = (digits : List ℕ) × (text ≡ digits ++ codes "R") × SaysNumber max_stream digits stream

-- the line says the statement; a frame's four parts have one space between, and its payload is everything after the
-- third
abbrev pub Says : List ℕ → Statement → Type 0
Says text Nothing = (text ≡ []) ⊎ (slice_get text 0 ≡ Some 59)
Says text Preface = text ≡ codes "PREFACE"
Says text (Raw octets) = (digits : List ℕ) × (text ≡ codes "RAW " ++ digits) × SaysSomeOctets digits octets
Says text (AFrame kind flags stream reserved payload) = (a b c d : List ℕ) × (text ≡ a ++ 32 ∷ (b ++ 32 ∷ (c ++ 32 ∷ d))) ×
    SaysType a kind × SaysOctet b flags × SaysStream c stream reserved × SaysPayload d payload × (length (payload_octets payload) < 2 ^ 24)

-- the line represents the octets
abbrev pub Line : List ℕ → List ℕ → Type 0
Line text octets = (s : Statement) × Says text s × (octets ≡ octets_of s)

-- ---- bad lines

-- the text before the first such octet, and the text after it
abbrev pub cut_at : ℕ → List ℕ → Option (List ℕ × List ℕ)
cut_at c xs = option_map (λ i. (take i xs, drop (i + 1) xs)) (position (λ b. b == c) xs)

-- the word before the first space, or the whole line where there is none
abbrev pub first_word : List ℕ → List ℕ
first_word line = before_first (λ b. b == 32) line

-- the parts of a frame's line, which is cut at its first three spaces
pub record FourParts : Type 0 where
  pub name : List ℕ
  pub flags : List ℕ
  pub stream : List ℕ
  pub payload : List ℕ

-- the parts of a line, where there is a third space
abbrev pub third_cut : List ℕ → List ℕ → Option (List ℕ × List ℕ) → Option FourParts
third_cut name flags None = None
third_cut name flags (Some c) = Some (record { name = name; flags = flags; stream = c.0; payload = c.1 })

-- where there is a second
abbrev pub second_cut : List ℕ → Option (List ℕ × List ℕ) → Option FourParts
second_cut name None = None
second_cut name (Some b) = third_cut name b.0 (cut_at 32 b.1)

-- where there is a first
abbrev pub first_cut : Option (List ℕ × List ℕ) → Option FourParts
first_cut None = None
first_cut (Some a) = second_cut a.0 (cut_at 32 a.1)

-- the four parts; none on a line with fewer than three spaces
abbrev pub parts_of : List ℕ → Option FourParts
parts_of line = first_cut (cut_at 32 line)

-- the first word is neither PREFACE nor RAW
abbrev pub IsFrameLine : List ℕ → Type 0
IsFrameLine line = (first_word line ≢ codes "PREFACE") × (first_word line ≢ codes "RAW")

-- such a line, with a fact of its four parts
abbrev pub HasParts : (FourParts → Type 0) → List ℕ → Type 0
HasParts P line = IsFrameLine line × ((p : FourParts) × (parts_of line ≡ Some p) × P p)

-- the first word is PREFACE with a space after it, or RAW without digits, or neither and there are fewer than three
-- spaces
abbrev pub HasBadParts : List ℕ → Type 0
HasBadParts line =
    ((first_word line ≡ codes "PREFACE") × (line ≢ codes "PREFACE")) ⊎ ((line ≡ codes "RAW") ⊎ ((line ≡ codes "RAW ") ⊎ (IsFrameLine line × (parts_of line ≡ None))))

-- the payload, or the digits of RAW, are of no form
abbrev pub HasBadPayload : List ℕ → Type 0
HasBadPayload line =
    HasParts (λ p. (payload : Payload) → ¬ SaysPayload p.payload payload) line
    ⊎ ((digits : List ℕ) × (line ≡ codes "RAW " ++ digits) × (0 < length digits) × ((octets : List ℕ) → ¬ SaysSomeOctets digits octets))

-- what is wrong with a line
abbrev pub HasFault : SyntaxKind → List ℕ → Type 0
HasFault kind.Parts line = HasBadParts line
HasFault kind.Name line = HasParts (λ p. (number : ℕ) → ¬ SaysType p.name number) line
HasFault kind.Flags line = HasParts (λ p. (flags : ℕ) → ¬ SaysOctet p.flags flags) line
HasFault kind.Stream line = HasParts (λ p. (stream : ℕ) (reserved : Bool) → ¬ SaysStream p.stream stream reserved) line
HasFault kind.Payload line = HasBadPayload line
HasFault kind.Size line = HasParts (λ p. (payload : Payload) × SaysPayload p.payload payload × (2 ^ 24 ≤ length (payload_octets payload))) line

-- the numbers of the kinds
abbrev pub kind_number : SyntaxKind → ℕ
kind_number kind.Parts = 1
kind_number kind.Name = 2
kind_number kind.Flags = 3
kind_number kind.Stream = 4
kind_number kind.Payload = 5
kind_number kind.Size = 6

-- the line has a fault of this kind, and none of a lesser number
abbrev pub IsLeastFault : SyntaxKind → List ℕ → Type 0
IsLeastFault kind line = HasFault kind line × ((other : SyntaxKind) → kind_number other < kind_number kind → ¬ HasFault other line)

-- ---- scripts

-- the texts between line feeds; after the last one there may be an empty line, which is no octets
abbrev pub lines_of : List ℕ → List (List ℕ)
lines_of text = slice_split (λ b. b == 10) text

-- lines, one after another
abbrev pub AreLines : List (List ℕ) → List ℕ → Type 0
AreLines [] octets = octets ≡ []
AreLines (line ∷ lines) octets = (first rest : List ℕ) × Line line first × AreLines lines rest × (octets ≡ first ++ rest)

-- the script represents the octets
abbrev pub Script : List ℕ → List ℕ → Type 0
Script text octets = AreLines (lines_of text) octets

-- the n-th line, counted from 1, is the first that represents nothing, and this is its least fault
pub record Bad (text : List ℕ) (n : ℕ) (kind : SyntaxKind) : Type 0 where
  pub above : List (List ℕ)
  pub line : List ℕ
  pub below : List (List ℕ)
  pub lines : lines_of text ≡ above ++ line ∷ below
  pub number : n ≡ length above + 1
  pub first : AllByRecursion (λ l. (octets : List ℕ) × Line l octets) above
  pub nothing : (octets : List ℕ) → ¬ Line line octets
  pub least : IsLeastFault kind line

-- what an answer says of the text
abbrev pub IsReadingOf : List ℕ → Result (List ℕ) (ℕ × SyntaxKind) → Type 0
IsReadingOf text (Ok octets) = Script text octets
IsReadingOf text (Err (n, kind)) = Bad text n kind
