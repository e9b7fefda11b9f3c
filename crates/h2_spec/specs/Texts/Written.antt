-- The one script that is written for octets: what each frame is said to be, and the text of it.
use Rattle.std.specs.Prelude.{ℕ, zero, suc, ◌+◌, ◌%◌, ◌^◌, Bool, true, false, ◌&&◌, ◌||◌, not, List, [], ◌∷◌, ◌++◌, length, take, drop, codes, bytes_eq, nat_eq, flat_map, nat_lt, ◌==◌, if◌then◌else◌, Option, Some, None, option_map, slice_index, slice_get, unwrap_or}
use Rattle.std.specs.Fmt.{decimal}
use Rattle.std.specs.List.{starts_with}
use Rattle.hex.specs.Hex.{encode_lower}
use Rattle.h2_spec.specs.Frames.Frame.{head_of, preface}
use Rattle.h2_spec.specs.Frames.FrameType.{has, CONTINUATION, HEADERS, PADDED, RST_STREAM, SETTINGS, WINDOW_UPDATE, WITH_PRIORITY}
use Rattle.h2_spec.specs.Hpack.Huffman.{spell_huffman}
use Rattle.h2_spec.specs.Hpack.Instruction.{Instruction, Indexed, Update, Literal, NameRef, Ref, Named, TextStr, instruction_at, spell}
use Rattle.h2_spec.specs.Octets.{four_octets}
use Rattle.h2_spec.specs.Frames.Parse.{Front, Stop, One, parse_all}
use Rattle.h2_spec.specs.Frames.Payload.{setting_pairs}
use Rattle.h2_spec.specs.Read.{Read, Whole, More, TooLong}
use Rattle.h2_spec.specs.Frames.FrameType.{type_names}
use Rattle.h2_spec.specs.Texts.Script.{Payload, Empty, Octets, Pairs, Increment, Code, Instructions, Statement, Nothing, Preface, Raw, AFrame, instruction_octets, is_plain, mode_letter, quote_of}
use Rattle.h2_spec.specs.declared.frames.Head.{Head}

-- ---- what is said about octets

-- a script can write its numbers
abbrev pub is_writable : Instruction → Bool
is_writable (Indexed i) = nat_lt i (2 ^ 32)
is_writable (Update n) = nat_lt n (2 ^ 32)
is_writable (Literal mode (Ref i) value) = nat_lt 0 i && nat_lt i (2 ^ 32)
is_writable (Literal mode (Named name) value) = true

-- the first instruction, if a script can say it, and those after it
abbrev pub first_said : Read (Option Instruction) → (ℕ → Option (List Instruction)) → Option (List Instruction)
first_said (Whole (Some i) used) more = if is_writable i then option_map (λ is. i ∷ is) (more used) else None
first_said (Whole None used) more = None
first_said More more = None
first_said TooLong more = None

-- octets as whole instructions that a script can say, at most this many
abbrev pub instructions_in : ℕ → List ℕ → Option (List Instruction)
instructions_in most [] = Some []
instructions_in zero (o ∷ xs) = None
instructions_in (suc fewer) (o ∷ xs) = first_said (instruction_at (o ∷ xs)) (λ used. instructions_in fewer (drop used (o ∷ xs)))

-- octets that a script would spell so: the shortest integers, and strings without fault
abbrev pub or_octets : List ℕ → Option (List Instruction) → Payload
or_octets p None = Octets p
or_octets p (Some is) = if bytes_eq (flat_map instruction_octets is) p then Instructions is else Octets p

-- whole instructions, spelled as a script spells them, or octets
unfoldable pub block_said : List ℕ → Payload
unfolding instruction_at spell spell_huffman
block_said p = or_octets p (instructions_in (length p) p)

-- the frame is HEADERS without padding and priority, or CONTINUATION: its payload is a fragment of a field block alone
abbrev pub is_fragment : ℕ → ℕ → Bool
is_fragment kind flags = kind == CONTINUATION || (kind == HEADERS && not (has flags PADDED) && not (has flags WITH_PRIORITY))

-- the form of a payload, by its frame's type and flags
unfoldable pub payload_said : ℕ → ℕ → List ℕ → Payload
unfolding block_said
payload_said kind flags p =
    if length p == 0 then Empty
    else if kind == SETTINGS && length p % 6 == 0 then Pairs (setting_pairs p)
    else if kind == WINDOW_UPDATE && (length p == 4 && nat_lt (slice_index p 0) 128) then Increment (four_octets p 0)
    else if kind == RST_STREAM && length p == 4 then Code (four_octets p 0)
    else if is_fragment kind flags then block_said p
    else Octets p

-- what is said about a frame
abbrev pub frame_said : Head → List ℕ → Statement
frame_said h p = AFrame h.kind h.flags h.stream h.reserved (payload_said h.kind h.flags p)

-- a whole frame at the front
abbrev pub frame_front : Head → List ℕ → Front Bool Statement
frame_front h b = if nat_lt (length b) (9 + h.length) then Stop else One (frame_said h (take h.length (drop 9 b))) false (9 + h.length)

-- the preface, where octets begin, or a whole frame, of any length
unfoldable pub next_said : Bool → List ℕ → Front Bool Statement
unfolding preface head_of payload_said
next_said first b =
    if first && starts_with nat_eq b preface then One Preface false 24
    else if nat_lt (length b) 9 then Stop else frame_front (head_of b) b

-- ---- texts

-- an octet of a string: itself, or a backslash and two digits
abbrev pub character_text : ℕ → List ℕ
character_text c = if is_plain c then c ∷ [] else 92 ∷ encode_lower (c ∷ [])

-- the text of a string, between its quotes
abbrev pub string_text : TextStr → List ℕ
string_text s = quote_of s.huffman ∷ (flat_map character_text s.text ++ quote_of s.huffman ∷ [])

-- the text of a literal's name
abbrev pub name_text : NameRef TextStr → List ℕ
name_text (Ref i) = decimal i
name_text (Named s) = string_text s

-- the text of an instruction
abbrev pub instruction_text : Instruction → List ℕ
instruction_text (Indexed i) = 105 ∷ decimal i
instruction_text (Update n) = 117 ∷ decimal n
instruction_text (Literal mode name value) = mode_letter mode ∷ (name_text name ++ 61 ∷ string_text value)

-- the text of a setting
abbrev pub setting_text : ℕ × ℕ → List ℕ
setting_text p = decimal p.0 ++ 61 ∷ decimal p.1

-- with commas between
abbrev pub each_text : {A : Type 0} → (A → List ℕ) → List A → List ℕ
each_text text [] = []
each_text text (x ∷ []) = text x
each_text text (x ∷ y ∷ ys) = text x ++ 44 ∷ each_text text (y ∷ ys)

-- the text of a payload
abbrev pub payload_text : Payload → List ℕ
payload_text Empty = codes "-"
payload_text (Octets octets) = 120 ∷ encode_lower octets
payload_text (Pairs pairs) = 115 ∷ each_text setting_text pairs
payload_text (Increment n) = 119 ∷ decimal n
payload_text (Code n) = 99 ∷ decimal n
payload_text (Instructions is) = 104 ∷ each_text instruction_text is

-- the name of a frame type, or T and two digits
abbrev pub type_text : ℕ → List ℕ
type_text kind = unwrap_or (slice_get type_names kind) (84 ∷ encode_lower (kind ∷ []))

-- the text of a stream's identifier and its reserved bit
abbrev pub stream_text : ℕ → Bool → List ℕ
stream_text stream reserved = if reserved then decimal stream ++ codes "R" else decimal stream

-- the text of a statement
abbrev pub statement_text : Statement → List ℕ
statement_text Nothing = []
statement_text Preface = codes "PREFACE"
statement_text (Raw octets) = codes "RAW " ++ encode_lower octets
statement_text (AFrame kind flags stream reserved payload) =
    type_text kind ++ 32 ∷ (encode_lower (flags ∷ []) ++ 32 ∷ (stream_text stream reserved ++ 32 ∷ payload_text payload))

-- the text of a line
abbrev pub line_text : Statement → List ℕ
line_text s = statement_text s ++ 10 ∷ []

-- the rest after the last whole frame
abbrev pub rest_text : List ℕ → List ℕ
rest_text [] = []
rest_text (x ∷ xs) = line_text (Raw (x ∷ xs))

-- the script that is written for octets
unfoldable pub written : List ℕ → List ℕ
unfolding parse_all next_said
written b = let t = parse_all next_said true b in flat_map line_text t.elements ++ rest_text t.rest
