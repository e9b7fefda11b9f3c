-- The values of sentences about errors: what the head and the payload of an item's frame have.
use Rattle.std.specs.Prelude.{ℕ, List, Option, Some, None, slice_get, slice_index}
use Rattle.h2_spec.specs.Frames.FrameType.{frame_type}
use Rattle.h2_spec.specs.Frames.Payload.{Part, OfData, OfHeaders, OfPriority, OfRstStream, OfSettings, OfSettingsAck, OfPushPromise, OfPing, OfGoaway, OfWindowUpdate, OfContinuation, OfUnknown, fixed_len}
use Rattle.h2_spec.specs.declared.frames.FrameType.{FrameType}
use Rattle.h2_spec.specs.declared.frames.FrameType.TheVariants.{Unknown}
use Rattle.h2_spec.specs.declared.frames.Head.{Head}

-- the type of a frame, 0 of no known one where there is none (4.1)
abbrev pub type_in : Option Head → FrameType
type_in None = Unknown 0
type_in (Some h) = frame_type h.kind

-- the length of its payload, 0 where there is none (4.1)
abbrev pub length_in : Option Head → ℕ
length_in None = 0
length_in (Some h) = h.length

-- how many octets its flags put before the fragment of HEADERS: 1 for the Pad Length, 5 for the priority (6.2)
abbrev pub fixed_in : Option Head → ℕ
fixed_in None = 0
fixed_in (Some h) = fixed_len h.flags

-- the Pad Length, the first octet of a payload; 0 where it is empty (6.1, 6.2)
abbrev pub pad_in : List ℕ → ℕ
pad_in payload = slice_index payload 0

-- the increment of WINDOW_UPDATE, 0 of any other (6.9)
abbrev pub increment_of : Part → ℕ
increment_of (OfData part) = 0
increment_of (OfHeaders part) = 0
increment_of OfPriority = 0
increment_of (OfRstStream error) = 0
increment_of (OfSettings pairs) = 0
increment_of OfSettingsAck = 0
increment_of OfPushPromise = 0
increment_of (OfPing octets) = 0
increment_of (OfGoaway last error) = 0
increment_of (OfWindowUpdate increment) = increment
increment_of (OfContinuation fragment) = 0
increment_of OfUnknown = 0

-- the increment that a payload has
abbrev pub increment_in : Option Part → ℕ
increment_in None = 0
increment_in (Some part) = increment_of part

-- the setting of SETTINGS at a place, from 0: its identifier and its value (6.5.1)
abbrev pub setting_of : ℕ → Part → Option (ℕ × ℕ)
setting_of place (OfData part) = None
setting_of place (OfHeaders part) = None
setting_of place OfPriority = None
setting_of place (OfRstStream error) = None
setting_of place (OfSettings pairs) = slice_get pairs place
setting_of place OfSettingsAck = None
setting_of place OfPushPromise = None
setting_of place (OfPing octets) = None
setting_of place (OfGoaway last error) = None
setting_of place (OfWindowUpdate increment) = None
setting_of place (OfContinuation fragment) = None
setting_of place OfUnknown = None

-- the setting that a payload has there
abbrev pub setting_in : ℕ → Option Part → Option (ℕ × ℕ)
setting_in place None = None
setting_in place (Some part) = setting_of place part
