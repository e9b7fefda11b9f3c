-- What the payload of a frame holds (RFC 9113, 6).
use Rattle.std.specs.Prelude.{ℕ, ◌+◌, ◌-◌, ◌*◌, ◌%◌, Bool, true, false, List, [], ◌∷◌, length, take, drop, slice_index, nat_lt, ◌==◌, if◌then◌else◌, Option, Some, None, Result, Ok, Err}
use Rattle.h2_spec.specs.declared.causes.Cause.{Cause}
use Rattle.h2_spec.specs.declared.causes.Cause.TheVariants.{DataLength, HeadersLength, PriorityLength, RstStreamLength, SettingsLength, SettingsAckLength, PingLength, GoawayLength, WindowUpdateLength, DataPadding, HeadersPadding}
use Rattle.h2_spec.specs.declared.frames.FrameType.{FrameType}
use Rattle.h2_spec.specs.declared.frames.FrameType.TheVariants.{Data, Headers, Priority, RstStream, Settings, PushPromise, Ping, Goaway, WindowUpdate, Continuation, Unknown}
use Rattle.h2_spec.specs.declared.frames.Head.{Head}
use Rattle.h2_spec.specs.Frames.FrameType.{frame_type, has, PADDED, WITH_PRIORITY, ACK}
use Rattle.h2_spec.specs.Octets.{four_octets, low_31_bits}

-- DATA: the length of the padding if it is given, the content, the padding (6.1)
pub record DataPart : Type 0 where
  pub pad : Option ℕ
  pub content : List ℕ
  pub padding : List ℕ

-- HEADERS: besides, the dependency's 32 bits and the weight, if they are given, and the fragment of a field block (6.2)
pub record HeadersPart : Type 0 where
  pub pad : Option ℕ
  pub priority : Option (ℕ × ℕ)
  pub fragment : List ℕ
  pub padding : List ℕ

-- what a payload holds, by the frame's type
pub data Part : Type 0 where
  OfData : DataPart → Part
  OfHeaders : HeadersPart → Part
  OfPriority : Part
  -- the error code
  OfRstStream : ℕ → Part
  -- the settings in order, as identifier and value, or the acknowledgement
  OfSettings : List (ℕ × ℕ) → Part
  OfSettingsAck : Part
  OfPushPromise : Part
  -- eight octets
  OfPing : List ℕ → Part
  -- the last stream and the error code
  OfGoaway : ℕ → ℕ → Part
  -- the increment
  OfWindowUpdate : ℕ → Part
  -- the fragment of a field block
  OfContinuation : List ℕ → Part
  OfUnknown : Part

-- this many octets, where the flag is set
abbrev pub octets_if : Bool → ℕ → ℕ
octets_if true n = n
octets_if false n = 0

-- the octets before the content: the length of the padding, and a priority
abbrev pub fixed_len : ℕ → ℕ
fixed_len flags = octets_if (has flags PADDED) 1 + octets_if (has flags WITH_PRIORITY) 5

-- the length of the padding, where the flag is set
abbrev pub pad_length : ℕ → List ℕ → Option ℕ
pad_length flags p = if has flags PADDED then Some (slice_index p 0) else None

-- the length of the padding, 0 where none is given
abbrev pub pad_or_0 : Option ℕ → ℕ
pad_or_0 None = 0
pad_or_0 (Some n) = n

-- DATA (6.1)
unfoldable pub data_part : ℕ → List ℕ → Result DataPart Cause
data_part flags p =
    let fixed = octets_if (has flags PADDED) 1 in
    let pad = pad_or_0 (pad_length flags p) in
    if nat_lt (length p) fixed then Err DataLength
    else if nat_lt (length p) (fixed + pad) then Err DataPadding
    else Ok (record { pad = pad_length flags p; content = take (length p - fixed - pad) (drop fixed p); padding = drop (length p - pad) p })

-- the dependency's 32 bits and the weight, where the flag is set
abbrev pub priority_of : ℕ → List ℕ → Option (ℕ × ℕ)
priority_of flags p =
    let at = octets_if (has flags PADDED) 1 in
    if has flags WITH_PRIORITY then Some (four_octets p at, slice_index p (at + 4)) else None

-- HEADERS (6.2)
unfoldable pub headers_part : ℕ → List ℕ → Result HeadersPart Cause
headers_part flags p =
    let fixed = fixed_len flags in
    let pad = pad_or_0 (pad_length flags p) in
    if nat_lt (length p) fixed then Err HeadersLength
    else if nat_lt (length p) (fixed + pad) then Err HeadersPadding
    else Ok (record { pad = pad_length flags p; priority = priority_of flags p; fragment = take (length p - fixed - pad) (drop fixed p); padding = drop (length p - pad) p })

-- the settings of a SETTINGS frame in order, as identifier and value (6.5.1)
abbrev pub setting_pairs : List ℕ → List (ℕ × ℕ)
setting_pairs (a ∷ b ∷ c ∷ d ∷ e ∷ f ∷ rest) = (256 * a + b, 16777216 * c + 65536 * d + 256 * e + f) ∷ setting_pairs rest
setting_pairs _ = []

-- SETTINGS (6.5)
unfoldable pub settings_part : ℕ → List ℕ → Result (List (ℕ × ℕ)) Cause
settings_part flags p =
    if has flags ACK then (if length p == 0 then Ok [] else Err SettingsAckLength)
    else (if length p % 6 == 0 then Ok (setting_pairs p) else Err SettingsLength)

-- WINDOW_UPDATE: the increment (6.9)
unfoldable pub window_part : List ℕ → Result ℕ Cause
window_part p = if length p == 4 then Ok (low_31_bits p 0) else Err WindowUpdateLength

-- GOAWAY: the last stream and the error code; what follows them is not looked at (6.8)
unfoldable pub goaway_part : List ℕ → Result (ℕ × ℕ) Cause
goaway_part p = if nat_lt (length p) 8 then Err GoawayLength else Ok (low_31_bits p 0, four_octets p 4)

-- RST_STREAM: the error code (6.4)
unfoldable pub reset_part : List ℕ → Result ℕ Cause
reset_part p = if length p == 4 then Ok (four_octets p 0) else Err RstStreamLength

-- a cause, or what is made of the part
abbrev pub with_part : {A : Type 0} → (A → Part) → Result A Cause → Result Part Cause
with_part f (Ok a) = Ok (f a)
with_part f (Err cause) = Err cause

-- SETTINGS with ACK hold nothing
abbrev pub settings_or_ack : Bool → List (ℕ × ℕ) → Part
settings_or_ack true pairs = OfSettingsAck
settings_or_ack false pairs = OfSettings pairs

-- a part of a payload of the one length that is allowed
abbrev pub of_length : ℕ → Cause → Part → List ℕ → Result Part Cause
of_length n cause part p = if length p == n then Ok part else Err cause

-- what a payload holds, by the frame's type: its length is decided before its padding
unfoldable pub part_as : FrameType → ℕ → List ℕ → Result Part Cause
unfolding data_part headers_part settings_part window_part goaway_part reset_part
part_as Data flags p = with_part OfData (data_part flags p)
part_as Headers flags p = with_part OfHeaders (headers_part flags p)
part_as Priority flags p = of_length 5 PriorityLength OfPriority p
part_as RstStream flags p = with_part OfRstStream (reset_part p)
part_as Settings flags p = with_part (settings_or_ack (has flags ACK)) (settings_part flags p)
part_as PushPromise flags p = Ok OfPushPromise
part_as Ping flags p = of_length 8 PingLength (OfPing p) p
part_as Goaway flags p = with_part (λ (g : ℕ × ℕ). OfGoaway g.0 g.1) (goaway_part p)
part_as WindowUpdate flags p = with_part OfWindowUpdate (window_part p)
part_as Continuation flags p = Ok (OfContinuation p)
part_as (Unknown kind) flags p = Ok OfUnknown

-- what the payload of a frame holds (6)
abbrev pub part_of : Head → List ℕ → Result Part Cause
part_of h p = part_as (frame_type h.kind) h.flags p
