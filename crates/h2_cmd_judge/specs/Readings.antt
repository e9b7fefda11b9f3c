-- The octets of a server as they arrive, and the events in them.
use Rattle.std.specs.Prelude.{ℕ, ◌==◌, Bool, List, [], ◌∷◌, ◌++◌, codes, nat_eq, if◌then◌else◌, Option, Some, None, Result, Ok, Err}
use Rattle.std.specs.List.{starts_with}
use Rattle.h2_spec.specs.Frames.Payload.{Part, part_of, OfData, OfHeaders, OfPriority, OfRstStream, OfSettings, OfSettingsAck, OfPushPromise, OfPing, OfGoaway, OfWindowUpdate, OfContinuation, OfUnknown}
use Rattle.h2_spec.specs.declared.causes.Cause.{Cause}
use Rattle.h2_explain_words.specs.Sent.{FirstFrame, first_frame}
use Rattle.h2_cmd_judge.specs.ServerFrames.{Progress, ServerFrames, read_on, unread_frames}
use Rattle.h2_cmd_judge.specs.declared.event.Seen.{Seen}

-- what arrived: all octets, how far their frames are read, the octets at the end that are no whole frame yet, and the events
pub record Reading : Type 0 where
  pub octets : List ℕ
  pub frames : ServerFrames
  pub rest : List ℕ
  pub events : List Seen

-- nothing has arrived
abbrev pub new_reading : Reading
new_reading = record { octets = []; frames = unread_frames; rest = []; events = [] }

-- these octets arrived in all, and their frames are read so far
abbrev pub with_progress : List ℕ → Progress → Reading
with_progress octets p = record { octets = octets; frames = p.frames; rest = p.rest; events = p.events }

-- octets arrive after this item
abbrev pub read_more : (after : ℕ) → Reading → List ℕ → Reading
read_more after r octets = with_progress (r.octets ++ octets) (read_on after r.frames r.events (r.rest ++ octets))

-- octets begin as an answer in HTTP/1.1 does (RFC 9112, 4)
abbrev pub is_http1 : List ℕ → Bool
is_http1 octets = starts_with nat_eq octets (codes "HTTP/1")

-- ---- what a server announces (RFC 9113, 3.4 and 6.5.2)

-- the settings of a payload
abbrev pub settings_of : Part → Option (List (ℕ × ℕ))
settings_of (OfData d) = None
settings_of (OfHeaders p) = None
settings_of OfPriority = None
settings_of (OfRstStream code) = None
settings_of (OfSettings pairs) = Some pairs
settings_of OfSettingsAck = None
settings_of OfPushPromise = None
settings_of (OfPing octets) = None
settings_of (OfGoaway last code) = None
settings_of (OfWindowUpdate octets) = None
settings_of (OfContinuation fragment) = None
settings_of OfUnknown = None

abbrev pub settings_read : Result Part Cause → Option (List (ℕ × ℕ))
settings_read (Ok part) = settings_of part
settings_read (Err cause) = None

abbrev pub settings_in_first : Option FirstFrame → Option (List (ℕ × ℕ))
settings_in_first (Some f) = settings_read (part_of f.head f.payload)
settings_in_first None = None

-- the settings of the frame that octets begin with, if it is SETTINGS
abbrev pub first_settings : List ℕ → Option (List (ℕ × ℕ))
first_settings octets = settings_in_first (first_frame octets)

-- a value, or that of a pair of this identifier
abbrev pub value_with : (id value : ℕ) → ℕ × ℕ → ℕ
value_with id value pair = if pair.0 == id then pair.1 else value

-- the last value of a setting among pairs; another where it is not there
abbrev pub value_among : (id other : ℕ) → List (ℕ × ℕ) → ℕ
value_among id other [] = other
value_among id other (pair ∷ pairs) = value_among id (value_with id other pair) pairs

abbrev pub value_if : Option (List (ℕ × ℕ)) → (id other : ℕ) → ℕ
value_if (Some pairs) id other = value_among id other pairs
value_if None id other = other

-- the value of a setting that a server announces in the first frame of its octets; another where it announces none
abbrev pub announced : List ℕ → (id other : ℕ) → ℕ
announced octets id other = value_if (first_settings octets) id other
