-- What a client does that a dialogue looks at, and its reaction to a step.
use Rattle.std.specs.Prelude.{ℕ, ◌-◌, ◌%◌, ◌==◌, ◌&&◌, ◌||◌, not, nat_eq, Bool, true, false, List, [], ◌∷◌, ◌++◌, flat_map, if◌then◌else◌, Option, Some, None, Result, Ok, Err}
use Rattle.std.specs.List.{list_any, starts_with}
use Rattle.std.specs.Str.{bytes_eq}
use Rattle.std.specs.Int.RustNames.{bit_and}
use Rattle.h2_spec.specs.declared.frames.Head.{Head}
use Rattle.h2_spec.specs.declared.causes.Cause.{Cause}
use Rattle.h2_spec.specs.Frames.Payload.{Part, part_of, OfData, OfHeaders, OfPriority, OfRstStream, OfSettings, OfSettingsAck, OfPushPromise, OfPing, OfGoaway, OfWindowUpdate, OfContinuation, OfUnknown}
use Rattle.h2_cmd_dialogue.specs.declared.heard.Ending.{Ending}
use Rattle.h2_cmd_dialogue.specs.declared.heard.Event.{Event}
use Rattle.h2_cmd_dialogue.specs.declared.heard.Event.TheVariants.{Pong, Goaway, Reset, Sends}
use Rattle.h2_cmd_dialogue.specs.declared.heard.Heard.{Heard}
use Rattle.h2_cmd_dialogue.specs.declared.step.Means.{Means}
use Rattle.h2_cmd_dialogue.specs.declared.step.Means.TheVariants as means
use Rattle.h2_cmd_dialogue.specs.Steps.{SendsLine, Step, based, is_pong}
use Rattle.h2_cmd_dialogue.specs.declared.verdict.Taken.{Taken}
use Rattle.h2_cmd_dialogue.specs.declared.verdict.Taken.TheVariants as taken

abbrev pub goaway_event : ℕ → Option Event
goaway_event code = if code == 0 then None else Some (Goaway code)

abbrev pub event_part : ℕ → Part → Option Event
event_part stream (OfData d) = None
event_part stream (OfHeaders p) = None
event_part stream OfPriority = None
event_part stream (OfRstStream code) = Some (Reset stream code)
event_part stream (OfSettings pairs) = None
event_part stream OfSettingsAck = None
event_part stream OfPushPromise = None
event_part stream (OfPing octets) = None
event_part stream (OfGoaway last code) = goaway_event code
event_part stream (OfWindowUpdate octets) = None
event_part stream (OfContinuation fragment) = None
event_part stream OfUnknown = None

abbrev pub event_in : ℕ → Result Part Cause → Option Event
event_in stream (Ok part) = event_part stream part
event_in stream (Err cause) = None

-- what a frame says: an answer to a PING of a step, GOAWAY with an error (RFC 9113, 6.8), or RST_STREAM (6.4)
abbrev pub event_of : Head → List ℕ → Option Event
event_of h payload = if is_pong h payload then Some Pong else event_in h.stream (part_of h payload)

-- ---- lines ;<

abbrev pub fragment_part : List ℕ → Part → List ℕ
fragment_part payload (OfData d) = payload
fragment_part payload (OfHeaders p) = p.fragment
fragment_part payload OfPriority = payload
fragment_part payload (OfRstStream code) = payload
fragment_part payload (OfSettings pairs) = payload
fragment_part payload OfSettingsAck = payload
fragment_part payload OfPushPromise = payload
fragment_part payload (OfPing octets) = payload
fragment_part payload (OfGoaway last code) = payload
fragment_part payload (OfWindowUpdate octets) = payload
fragment_part payload (OfContinuation fragment) = payload
fragment_part payload OfUnknown = payload

abbrev pub fragment_in : List ℕ → Result Part Cause → List ℕ
fragment_in payload (Ok part) = fragment_part payload part
fragment_in payload (Err cause) = payload

-- the payload of a frame; of HEADERS the fragment of the field block (6.2)
abbrev pub fragment_of : Head → List ℕ → List ℕ
fragment_of h payload = if h.kind == 1 then fragment_in payload (part_of h payload) else payload

abbrev pub begins_so : SendsLine → Head → List ℕ → Bool
begins_so l h payload =
    (bit_and h.flags l.frame.head.flags == l.frame.head.flags) && starts_with nat_eq (fragment_of h payload) l.frame.payload

abbrev pub sends_as : Means → SendsLine → Head → List ℕ → Bool
sends_as means.Frame l h payload = (h.flags == l.frame.head.flags) && bytes_eq payload l.frame.payload
sends_as means.Beginning l h payload = begins_so l h payload
sends_as means.Never l h payload = begins_so l h payload

-- whether a frame of the client is one that a line means
abbrev pub sends : (base : ℕ) → SendsLine → Head → List ℕ → Bool
sends base l h payload =
    if not (h.kind == l.frame.head.kind) || not (h.stream == based base l.frame.head.stream) then false
    else sends_as l.means l h payload

-- what lines mean of what a frame is
abbrev pub with_sent : (base : ℕ) → List SendsLine → Head → List ℕ → List Event
with_sent base [] h payload = []
with_sent base (l ∷ ls) h payload =
    (if sends base l h payload then Sends l.line ∷ [] else []) ++ with_sent base ls h payload

-- the same of the lines of steps
abbrev pub sent_after : (base : ℕ) → List Step → Head → List ℕ → List Event
sent_after base steps h payload = flat_map (λ (s : Step). with_sent base s.sends h payload) steps

abbrev pub is_event : ℕ → Event → Bool
is_event line Pong = false
is_event line (Goaway code) = false
is_event line (Reset stream code) = false
is_event line (Sends number) = number == line

abbrev pub is_sent : ℕ → List Event → Bool
is_sent line events = list_any (is_event line) events

-- ---- the reaction

abbrev pub nothing_heard : Heard
nothing_heard = record { goaway = None; reset = None; answers = false }

-- a client that has to go on gives a stream up at its end, by NO_ERROR or CANCEL after an answer
abbrev pub gives_up : (goes_on : Bool) → Heard → ℕ → Bool
gives_up goes_on h code = goes_on && (h.answers && ((code == 0) || (code == 8)))

abbrev pub with_goaway : Heard → Option ℕ → ℕ → Heard
with_goaway h (Some before) code = h
with_goaway h None code = record h { goaway = Some code }

abbrev pub with_reset : Bool → Heard → Option (ℕ × ℕ) → (stream code : ℕ) → Heard
with_reset goes_on h (Some before) stream code = h
with_reset goes_on h None stream code = if gives_up goes_on h code then h else record h { reset = Some (stream, code) }

abbrev pub heard_with : (goes_on : Bool) → Heard → Event → Heard
heard_with goes_on h Pong = record h { answers = true }
heard_with goes_on h (Goaway code) = with_goaway h h.goaway code
heard_with goes_on h (Reset stream code) = with_reset goes_on h h.reset stream code
heard_with goes_on h (Sends line) = h

abbrev pub heard_from : (goes_on : Bool) → Heard → List Event → Heard
heard_from goes_on h [] = h
heard_from goes_on h (e ∷ es) = heard_from goes_on (heard_with goes_on h e) es

-- the number that a stream of the client has in the file
abbrev pub based_on : (base stream : ℕ) → ℕ
based_on base stream = if stream % 2 == 1 then stream - base else stream

-- without an error of the client
abbrev pub quiet_reaction : (goes_on : Bool) → Heard → Ending → Taken
quiet_reaction goes_on h e =
    if e.is_closed && goes_on then (if e.is_later || not e.waits then taken.GoesOn else taken.Closed)
    else if h.answers then taken.GoesOn
    else if e.is_closed then taken.Closed
    else taken.Silent

abbrev pub reaction_if : (base : ℕ) → (goes_on : Bool) → Heard → Ending → Option ℕ → Option (ℕ × ℕ) → Taken
reaction_if base goes_on h e (Some code) reset = taken.Connection code
reaction_if base goes_on h e None (Some reset) = taken.Stream (based_on base reset.0) reset.1
reaction_if base goes_on h e None None = quiet_reaction goes_on h e

-- the first GOAWAY with an error, else the first RST_STREAM, else whether the client went on
abbrev pub reaction_to : (base : ℕ) → (goes_on : Bool) → Heard → Ending → Taken
reaction_to base goes_on h e = reaction_if base goes_on h e h.goaway h.reset
