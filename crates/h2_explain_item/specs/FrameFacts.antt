-- What is wrong with a frame by itself, though a receiver has to pass it over (RFC 9113, 4.1, 6.1 and 6.2; RFC 8441, 3).
use Rattle.std.specs.Prelude.{ℕ, ◌+◌, Bool, false, ◌&&◌, not, ◌==◌, if◌then◌else◌, List, [], nat_le, nat_lt, slice_get, Option, Some, None}
use Rattle.std.specs.List.{list_any}
use Rattle.h2_spec.specs.Frames.FrameType.{ACK, END_HEADERS, END_STREAM, PADDED, WITH_PRIORITY, frame_type, has}
use Rattle.h2_spec.specs.Frames.Payload.{Part, OfData, OfHeaders, OfPriority, OfRstStream, OfSettings, OfSettingsAck, OfPushPromise, OfPing, OfGoaway, OfWindowUpdate, OfContinuation, OfUnknown}
use Rattle.h2_spec.specs.declared.frames.FrameType.{FrameType}
use Rattle.h2_spec.specs.declared.frames.FrameType.TheVariants.{Data, Headers, Priority, RstStream, Settings, PushPromise, Ping, Goaway, WindowUpdate, Continuation, Unknown}
use Rattle.h2_spec.specs.declared.frames.Head.{Head}
use Rattle.h2_explain_item.specs.Item.{frame_in, head_in, part_in}
use Rattle.h2_explain_item.specs.declared.diagnosis.frame_facts.FrameFacts.{FrameFacts}
use Rattle.h2_explain_item.specs.declared.item.Explained.{Explained}

-- ---- padding

-- the octets of the padding that a payload has (6.1, 6.2)
abbrev pub padding_of : Part → List ℕ
padding_of (OfData part) = part.padding
padding_of (OfHeaders part) = part.padding
padding_of OfPriority = []
padding_of (OfRstStream error) = []
padding_of (OfSettings pairs) = []
padding_of OfSettingsAck = []
padding_of OfPushPromise = []
padding_of (OfPing octets) = []
padding_of (OfGoaway last error) = []
padding_of (OfWindowUpdate increment) = []
padding_of (OfContinuation fragment) = []
padding_of OfUnknown = []

-- whether an octet is not 0
abbrev pub is_not_zero : ℕ → Bool
is_not_zero octet = not (octet == 0)

-- whether padding has an octet that is not 0 (6.1)
abbrev pub has_bad_padding : Option Part → Bool
has_bad_padding None = false
has_bad_padding (Some part) = list_any is_not_zero (padding_of part)

-- ---- the head

-- whether the highest bit of an octet is set
abbrev pub is_high : Option ℕ → Bool
is_high None = false
is_high (Some octet) = nat_le 128 octet

-- whether the reserved bit of a head is set: the highest of the four octets of the stream (4.1)
abbrev pub has_reserved_bit : Option Head → List ℕ → Bool
has_reserved_bit None b = false
has_reserved_bit (Some h) b = is_high (slice_get b 5)

-- a flag where it is set, else 0
abbrev pub flag_in : (flags flag : ℕ) → ℕ
flag_in flags flag = if has flags flag then flag else 0

-- of these flags those that the type defines; all of a type that is not known (6.1 to 6.10)
abbrev pub defined_flags : FrameType → ℕ → ℕ
defined_flags Data flags = flag_in flags END_STREAM + flag_in flags PADDED
defined_flags Headers flags = flag_in flags END_STREAM + flag_in flags END_HEADERS + flag_in flags PADDED + flag_in flags WITH_PRIORITY
defined_flags Priority flags = 0
defined_flags RstStream flags = 0
defined_flags Settings flags = flag_in flags ACK
defined_flags PushPromise flags = flag_in flags END_HEADERS + flag_in flags PADDED
defined_flags Ping flags = flag_in flags ACK
defined_flags Goaway flags = 0
defined_flags WindowUpdate flags = 0
defined_flags Continuation flags = flag_in flags END_HEADERS
defined_flags (Unknown kind) flags = flags

-- whether another flag is set (4.1)
abbrev pub has_undefined_flags : Option Head → Bool
has_undefined_flags None = false
has_undefined_flags (Some h) = not (defined_flags (frame_type h.kind) h.flags == h.flags)

-- ---- settings

-- the settings that a payload has
abbrev pub settings_of : Part → List (ℕ × ℕ)
settings_of (OfData part) = []
settings_of (OfHeaders part) = []
settings_of OfPriority = []
settings_of (OfRstStream error) = []
settings_of (OfSettings pairs) = pairs
settings_of OfSettingsAck = []
settings_of OfPushPromise = []
settings_of (OfPing octets) = []
settings_of (OfGoaway last error) = []
settings_of (OfWindowUpdate increment) = []
settings_of (OfContinuation fragment) = []
settings_of OfUnknown = []

-- whether a setting is ENABLE_CONNECT_PROTOCOL above 1 (RFC 8441, 3)
abbrev pub is_bad_connect : ℕ × ℕ → Bool
is_bad_connect pair = pair.0 == 8 && nat_lt 1 pair.1

abbrev pub has_bad_connect : Option Part → Bool
has_bad_connect None = false
has_bad_connect (Some part) = list_any is_bad_connect (settings_of part)

-- ---- all of them

-- what is wrong with the frame that an item is
abbrev pub frame_facts : Explained → FrameFacts
frame_facts x = record {
  padding = has_bad_padding (part_in (frame_in x.what x.octets.now));
  reserved_bit = has_reserved_bit (head_in x.what) x.octets.now;
  flags = has_undefined_flags (head_in x.what);
  connect_protocol = has_bad_connect (part_in (frame_in x.what x.octets.now));
}
