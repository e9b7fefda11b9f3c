-- Lines and instructions that are written one after another.
use Rattle.std.specs.Prelude.{◌≡◌, ◌<◌, ◌≤◌, ◌^◌, ◌++◌, ◌∷◌, [], ◌&&◌, ℕ, zero, suc, Bool, true, false, List, nat_lt, drop, length, take, flat_map, Option, Some, None}
use Rattle.std.specs.declared.string.String.{String}
use Rattle.std.specs.String.{string_bytes}
use Rattle.h2_hpack_instruction.specs.Instructions.{instr_of}
use Rattle.h2_hpack_instruction.specs.declared.instruction.Instr.{Instr}
use Rattle.hex.specs.Hex.{encode_lower}
use Rattle.h2_spec.specs.Frames.Frame.{head_at}
use Rattle.h2_spec.specs.Hpack.Instruction.{Instruction, NameRef, Ref, Named, TextStr}
use Rattle.h2_spec.specs.Frames.Parse.{Front, Stop, One, parse_upto}
use Rattle.h2_spec.specs.Read.{Read, Whole}
use Rattle.h2_spec.specs.Texts.Script.{Payload, Octets, Instructions, Statement, instruction_octets}
use Rattle.h2_spec.specs.Texts.Written.{each_text, first_said, instruction_text, is_writable, line_text, next_said, rest_text, stream_text, type_text}
use Rattle.h2_spec.specs.declared.frames.Head.{Head}

-- the lines of at most this many statements, and of the rest
abbrev pub said_text : ℕ → Bool → List ℕ → List ℕ
said_text most first b = let t = parse_upto next_said most first b in flat_map line_text t.elements ++ rest_text t.rest

-- the line of the front was written, or there is none
abbrev pub IsNext : List ℕ → List ℕ → Option ℕ → Front Bool Statement → Type 0
IsNext old new None front = (front ≡ Stop) × (new ≡ old)
IsNext old new (Some used) front = (s : Statement) × (front ≡ One s false used) × (new ≡ old ++ line_text s)

-- the head and the payload of the frame at the front, or no whole frame is there
abbrev pub IsFrame : Option (Head × List ℕ) → List ℕ → Type 0
IsFrame None b = (h : Head) → Some h ≡ head_at b → length (drop 9 b) < h.length
IsFrame (Some f) b = (Some f.0 ≡ head_at b) × (f.0.length ≤ length (drop 9 b)) × (f.1 ≡ take f.0.length (drop 9 b))

-- the text of a frame before its payload
abbrev pub head_text : Head → List ℕ
head_text h = type_text h.kind ++ 32 ∷ (encode_lower (h.flags ∷ []) ++ 32 ∷ (stream_text h.stream h.reserved ++ 32 ∷ []))

-- a comma where something precedes
abbrev pub comma : ℕ → List ℕ
comma zero = []
comma (suc k) = 44 ∷ []

-- ---- field blocks

-- a script can write the index of a name
abbrev pub is_writable_name : NameRef TextStr → Bool
is_writable_name (Ref i) = nat_lt 0 i && nat_lt i (2 ^ 32)
is_writable_name (Named s) = true

-- the instruction at the front, which a script can say, or there is none
abbrev pub IsFirstSaid : {A : Type 0} → Option (Instr A × ℕ) → Read (Option Instruction) → Type 0
IsFirstSaid None read = (more : ℕ → Option (List Instruction)) → first_said read more ≡ None
IsFirstSaid (Some r) read = (read ≡ Whole (Some (instr_of r.0)) r.1) × (is_writable (instr_of r.0) ≡ true)

-- an instruction was written after others
abbrev pub AddsText : List ℕ → List ℕ → Instruction → Type 0
AddsText old new i = (is : List Instruction) → old ≡ each_text instruction_text is → new ≡ each_text instruction_text (is ++ i ∷ [])

-- the instruction at the front was written as text and as octets, or a script cannot say one
abbrev pub SaysFirst : List ℕ → List ℕ → List ℕ → List ℕ → Option ℕ → Read (Option Instruction) → Type 0
SaysFirst old new octets octets' None read = (more : ℕ → Option (List Instruction)) → first_said read more ≡ None
SaysFirst old new octets octets' (Some used) read =
    (i : Instruction) × (read ≡ Whole (Some i) used) × (is_writable i ≡ true) × AddsText old new i × (octets' ≡ octets ++ instruction_octets i)

-- the text of the instructions that a field block is, or it is said as octets
abbrev pub IsBlockText : {Z : Type 0} → Option (String Z) → Payload → List ℕ → Type 0
IsBlockText None payload p = payload ≡ Octets p
IsBlockText (Some text) payload p = (is : List Instruction) × (payload ≡ Instructions is) × (string_bytes text ≡ each_text instruction_text is)
