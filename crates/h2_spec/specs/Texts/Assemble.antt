-- How a script is read: the octets that it represents, or its first bad line and the least kind of fault in it.
use Rattle.std.specs.Prelude.{◌+◌, ◌-◌, ◌*◌, ◌^◌, ◌==◌, ◌&&◌, ◌||◌, ℕ, zero, suc, Bool, true, false, List, [], ◌∷◌, ◌++◌, Option, Some, None, Result, Ok, Err, codes, drop, take, length, nat_lt, nat_le, option_map, option_and_then, slice_index, if◌then◌else◌}
use Rattle.std.specs.List.{position_or_len}
use Rattle.std.specs.Str.{bytes_eq}
use Rattle.hex.specs.Hex.{decode_of, decode_sized}
use Rattle.hex.specs.declared.FromHexError.{FromHexError}
use Rattle.h2_spec.specs.Frames.Frame.{preface}
use Rattle.h2_spec.specs.Frames.FrameType.{type_named}
use Rattle.h2_spec.specs.Hpack.Huffman.{spell_huffman}
use Rattle.h2_spec.specs.Hpack.Instruction.{Instruction, Indexed, Update, Literal, Mode, IncrementalIndexing, WithoutIndexing, NeverIndexed, NameRef, Ref, Named, TextStr, spell}
use Rattle.h2_spec.specs.Texts.Script.{Payload, Empty, Octets, Pairs, Increment, Code, Instructions, Statement, Nothing, Preface, Raw, AFrame, cut_at, is_plain, lines_of, max_stream, max_u32, octets_of, payload_octets}
use Rattle.h2_spec.specs.declared.scripts.SyntaxKind.{SyntaxKind}
use Rattle.h2_spec.specs.declared.scripts.SyntaxKind.TheVariants as kind

-- ---- a value or nothing, a value or a fault

infixl 10 ◌>>=◌
abbrev pub ◌>>=◌ : {A B : Type 0} → Result A SyntaxKind → (A → Result B SyntaxKind) → Result B SyntaxKind
(Ok x) >>= f = f x
(Err e) >>= f = Err e

-- a value, or this fault where there is none
abbrev pub wanted : {A : Type 0} → SyntaxKind → Option A → Result A SyntaxKind
wanted kind None = Err kind
wanted kind (Some x) = Ok x

-- ---- parts of a text

-- the text before the first such octet, or all of it, and what begins there
abbrev pub before : ℕ → List ℕ → List ℕ
before c xs = take (position_or_len (λ b. b == c) xs) xs

-- the text from the first such octet on
abbrev pub onwards : ℕ → List ℕ → List ℕ
onwards c xs = drop (position_or_len (λ b. b == c) xs) xs

-- what follows this octet, if the text begins with it
abbrev pub behind : ℕ → List ℕ → Option (List ℕ)
behind c [] = None
behind c (x ∷ xs) = if x == c then Some xs else None

-- ---- words: numbers, octets, strings

-- what was decoded, if it was
abbrev pub decoded : Result (List ℕ) FromHexError → Option (List ℕ)
decoded (Ok x) = Some x
decoded (Err e) = None

-- two hex digits
abbrev pub octet_at : List ℕ → Option ℕ
octet_at text = option_map (λ xs. slice_index xs 0) (decoded (decode_sized text 1))

-- hex digits, at least two
abbrev pub octets_at : List ℕ → Option (List ℕ)
octets_at text = if length text == 0 then None else decoded (decode_of text)

-- the number that decimal digits write after those of n
unfoldable pub scanned : ℕ → List ℕ → Option ℕ
scanned n [] = Some n
scanned n (c ∷ cs) = if nat_le 48 c && nat_le c 57 then scanned (n * 10 + (c - 48)) cs else None

-- a number that is not above the limit
abbrev pub up_to : ℕ → ℕ → Option ℕ
up_to most n = if nat_le n most then Some n else None

-- 1 to 10 decimal digits of a number that is not above the limit
abbrev pub number_at : ℕ → List ℕ → Option ℕ
number_at most text = if nat_lt 0 (length text) && nat_le (length text) 10 then option_and_then (up_to most) (scanned 0 text) else None

-- the octets of a text between quotes: each is itself, or a backslash and two hex digits
abbrev pub with_octet : Option ℕ → Option (List ℕ) → Option (List ℕ)
with_octet None more = None
with_octet (Some c) more = option_map (λ cs. c ∷ cs) more

-- the octets between quotes
unfoldable pub unescaped : List ℕ → Option (List ℕ)
unescaped [] = Some []
unescaped (c ∷ []) = if is_plain c then Some (c ∷ []) else None
unescaped (c ∷ a ∷ []) = if is_plain c then option_map (λ cs. c ∷ cs) (unescaped (a ∷ [])) else None
unescaped (c ∷ a ∷ b ∷ cs) =
    if is_plain c then option_map (λ ds. c ∷ ds) (unescaped (a ∷ b ∷ cs))
    else if c == 92 then with_octet (octet_at (a ∷ b ∷ [])) (unescaped cs)
    else None

-- a string of these octets, and the text after it
abbrev pub string_of : Bool → List ℕ × List ℕ → Option (TextStr × List ℕ)
string_of huffman p = option_map (λ octets. (record { huffman = huffman; text = octets }, p.1)) (unescaped p.0)

-- the string at the front of a text, and the text after it
abbrev pub string_at : List ℕ → Option (TextStr × List ℕ)
string_at [] = None
string_at (q ∷ xs) =
    if q == 34 then option_and_then (string_of false) (cut_at 34 xs)
    else if q == 39 then option_and_then (string_of true) (cut_at 39 xs)
    else None

-- ---- instructions and settings, each with the text after it

-- the sign that begins a string
abbrev pub is_quote : ℕ → Bool
is_quote c = c == 34 || c == 39

-- an index of 1 or more
abbrev pub index_of : ℕ → Option (NameRef TextStr)
index_of i = if i == 0 then None else Some (Ref i)

-- the name of a literal at the front of a text
abbrev pub name_at : List ℕ → Option (NameRef TextStr × List ℕ)
name_at text =
    if is_quote (slice_index text 0) then option_map (λ p. (Named p.0, p.1)) (string_at text)
    else option_map (λ name. (name, onwards 61 text)) (option_and_then index_of (number_at max_u32 (before 61 text)))

-- the value of a literal after its name
abbrev pub value_at : Mode → NameRef TextStr → List ℕ → Option (Instruction × List ℕ)
value_at mode name text = option_map (λ p. (Literal mode name p.0, p.1)) (option_and_then string_at (behind 61 text))

-- a literal at the front of a text
abbrev pub literal_at : Mode → List ℕ → Option (Instruction × List ℕ)
literal_at mode text = option_and_then (λ p. value_at mode p.0 p.1) (name_at text)

-- an instruction that is a number
abbrev pub numbered_at : (ℕ → Instruction) → List ℕ → Option (Instruction × List ℕ)
numbered_at f text = option_map (λ n. (f n, onwards 44 text)) (number_at max_u32 (before 44 text))

-- the instruction at the front of a text, by its letter
unfoldable pub instruction_at : List ℕ → Option (Instruction × List ℕ)
unfolding scanned unescaped
instruction_at [] = None
instruction_at (c ∷ cs) =
    if c == 105 then numbered_at Indexed cs
    else if c == 117 then numbered_at Update cs
    else if c == 97 then literal_at IncrementalIndexing cs
    else if c == 110 then literal_at WithoutIndexing cs
    else if c == 118 then literal_at NeverIndexed cs
    else None

-- both, if both are there
abbrev pub pair_of : Option ℕ → Option ℕ → Option (ℕ × ℕ)
pair_of None b = None
pair_of (Some a) None = None
pair_of (Some a) (Some b) = Some (a, b)

-- identifier, equals sign, value
abbrev pub setting_of : List ℕ × List ℕ → Option (ℕ × ℕ)
setting_of p = pair_of (number_at 65535 p.0) (number_at max_u32 p.1)

-- the setting at the front of a text
unfoldable pub setting_at : List ℕ → Option ((ℕ × ℕ) × List ℕ)
unfolding scanned
setting_at text = option_map (λ p. (p, onwards 44 text)) (option_and_then setting_of (cut_at 61 (before 44 text)))

-- one, and then after a comma the others
abbrev pub one_and : {A : Type 0} → (List ℕ → Option (List A)) → A × List ℕ → Option (List A)
one_and more (x, []) = Some (x ∷ [])
one_and more (x, c ∷ rest) = if c == 44 then option_map (λ xs. x ∷ xs) (more rest) else None

-- with commas between, at most this many
abbrev pub each_at : {A : Type 0} → (List ℕ → Option (A × List ℕ)) → ℕ → List ℕ → Option (List A)
each_at next zero text = None
each_at next (suc fewer) text = option_and_then (one_and (λ rest. each_at next fewer rest)) (next text)

-- all: each but the first has its comma
abbrev pub all_at : {A : Type 0} → (List ℕ → Option (A × List ℕ)) → List ℕ → Option (List A)
all_at next text = each_at next (length text + 1) text

-- ---- payloads

-- the payload by the letter of its form
unfoldable pub payload_at : List ℕ → Option Payload
unfolding scanned setting_at instruction_at
payload_at [] = None
payload_at (form ∷ text) =
    if form == 45 then (if length text == 0 then Some Empty else None)
    else if form == 120 then option_map Octets (octets_at text)
    else if form == 115 then option_map Pairs (all_at setting_at text)
    else if form == 119 then option_map Increment (number_at max_stream text)
    else if form == 99 then option_map Code (number_at max_u32 text)
    else if form == 104 then option_map Instructions (all_at instruction_at text)
    else None

-- ---- frames

-- the type of a frame by its name, or T and two hex digits
abbrev pub type_at : List ℕ → Option ℕ
type_at text = type_named text (option_and_then octet_at (behind 84 text))

-- the last octet is an R
abbrev pub is_reserved : List ℕ → Bool
is_reserved text = nat_lt 0 (length text) && (slice_index text (length text - 1) == 82)

-- the stream's identifier, and whether the reserved bit is set
abbrev pub stream_at : List ℕ → Option (ℕ × Bool)
stream_at text =
    if is_reserved text then option_map (λ n. (n, true)) (number_at max_stream (take (length text - 1) text))
    else option_map (λ n. (n, false)) (number_at max_stream text)

-- a payload that a frame can have (RFC 9113, 4.1)
abbrev pub fitting : Payload → Result Payload SyntaxKind
fitting payload = if nat_lt (length (payload_octets payload)) (2 ^ 24) then Ok payload else Err kind.Size

-- the frame of four parts: the kinds of fault in their order
abbrev pub frame_of : List ℕ → List ℕ → List ℕ → List ℕ → Result Statement SyntaxKind
frame_of name flags stream payload = do
  type ← wanted kind.Name (type_at name)
  flag ← wanted kind.Flags (octet_at flags)
  id ← wanted kind.Stream (stream_at stream)
  content ← wanted kind.Payload (payload_at payload) >>= fitting
  Ok (AFrame type flag id.0 id.1 content)

-- the frame of a first word and the text after it
abbrev pub frame_at : List ℕ → List ℕ → Result Statement SyntaxKind
frame_at name rest = do
  b ← wanted kind.Parts (cut_at 32 rest)
  c ← wanted kind.Parts (cut_at 32 b.1)
  frame_of name b.0 c.0 c.1

-- ---- lines

-- RAW and its octets
abbrev pub raw_at : List ℕ → Result Statement SyntaxKind
raw_at digits = if length digits == 0 then Err kind.Parts else wanted kind.Payload (option_map Raw (octets_at digits))

-- a line of one word, or a first word and the text after it
abbrev pub words_at : List ℕ → Option (List ℕ × List ℕ) → Result Statement SyntaxKind
words_at line None = if bytes_eq line (codes "PREFACE") then Ok Preface else Err kind.Parts
words_at line (Some p) =
    if bytes_eq p.0 (codes "PREFACE") then Err kind.Parts
    else if bytes_eq p.0 (codes "RAW") then raw_at p.1
    else frame_at p.0 p.1

-- what a line says, or the least kind of fault
unfoldable pub statement_at : List ℕ → Result Statement SyntaxKind
unfolding scanned payload_at
statement_at [] = Ok Nothing
statement_at (c ∷ cs) = if c == 59 then Ok Nothing else words_at (c ∷ cs) (cut_at 32 (c ∷ cs))

-- ---- scripts

-- octets before those that follow
abbrev pub with_front : List ℕ → Result (List ℕ) (ℕ × SyntaxKind) → Result (List ℕ) (ℕ × SyntaxKind)
with_front front (Ok octets) = Ok (front ++ octets)
with_front front (Err e) = Err e

-- a line, and then those after it
abbrev pub line_then : ℕ → Result Statement SyntaxKind → Result (List ℕ) (ℕ × SyntaxKind) → Result (List ℕ) (ℕ × SyntaxKind)
line_then n (Err kind) more = Err (n, kind)
line_then n (Ok s) more = with_front (octets_of s) more

-- the lines from the n-th on
abbrev pub lines_at : ℕ → List (List ℕ) → Result (List ℕ) (ℕ × SyntaxKind)
lines_at n [] = Ok []
lines_at n (line ∷ lines) = line_then n (statement_at line) (lines_at (n + 1) lines)

-- the octets of a script, or its first bad line, counted from 1, and the least kind of fault in it
unfoldable pub assembled : List ℕ → Result (List ℕ) (ℕ × SyntaxKind)
unfolding statement_at spell spell_huffman preface
assembled text = lines_at 1 (lines_of text)
