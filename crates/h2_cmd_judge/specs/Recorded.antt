-- Recorded octets say what a server sent, not after which item it came: each event is put after the item beside which this
-- server does the like.
use Rattle.std.specs.Prelude.{ℕ, ◌==◌, ◌&&◌, ◌||◌, Bool, true, false, not, drop, if◌then◌else◌, List, [], ◌∷◌, Option, Some, None}
use Rattle.std.specs.Str.{bytes_eq}
use Rattle.h2_cmd_judge.specs.declared.event.Event.{Event}
use Rattle.h2_cmd_judge.specs.declared.event.Event.TheVariants.{Goaway, Reset, Answered, Ended, Acknowledged, Pong, Credit, Unreadable}
use Rattle.h2_cmd_judge.specs.declared.event.Seen.{Seen}

-- an event is an error
abbrev pub is_error_event : Event → Bool
is_error_event (Goaway code) = not (code == 0)
is_error_event (Reset stream code) = not (code == 0)
is_error_event (Answered stream status ends) = false
is_error_event (Ended stream) = false
is_error_event Acknowledged = false
is_error_event (Pong octets) = false
is_error_event (Credit stream octets) = false
is_error_event (Unreadable stream) = false

-- the stream of an answer or its end
abbrev pub answered_stream : Event → Option ℕ
answered_stream (Goaway code) = None
answered_stream (Reset stream code) = None
answered_stream (Answered stream status ends) = Some stream
answered_stream (Ended stream) = Some stream
answered_stream Acknowledged = None
answered_stream (Pong octets) = None
answered_stream (Credit stream octets) = None
answered_stream (Unreadable stream) = None

-- both are there, and the same
abbrev pub is_same_stream : Option ℕ → Option ℕ → Bool
is_same_stream (Some a) (Some b) = a == b
is_same_stream (Some a) None = false
is_same_stream None other = false

-- an event answers a PING with these octets
abbrev pub is_pong_like : List ℕ → Event → Bool
is_pong_like own (Goaway code) = false
is_pong_like own (Reset stream code) = false
is_pong_like own (Answered stream status ends) = false
is_pong_like own (Ended stream) = false
is_pong_like own Acknowledged = false
is_pong_like own (Pong octets) = bytes_eq own octets
is_pong_like own (Credit stream octets) = false
is_pong_like own (Unreadable stream) = false

-- an event acknowledges SETTINGS
abbrev pub is_acknowledgement : Event → Bool
is_acknowledgement (Goaway code) = false
is_acknowledgement (Reset stream code) = false
is_acknowledgement (Answered stream status ends) = false
is_acknowledgement (Ended stream) = false
is_acknowledgement Acknowledged = true
is_acknowledgement (Pong octets) = false
is_acknowledgement (Credit stream octets) = false
is_acknowledgement (Unreadable stream) = false

-- an event is the answer on a stream
abbrev pub is_answer_on : (stream : ℕ) → Event → Bool
is_answer_on own (Goaway code) = false
is_answer_on own (Reset stream code) = false
is_answer_on own (Answered stream status ends) = own == stream
is_answer_on own (Ended stream) = false
is_answer_on own Acknowledged = false
is_answer_on own (Pong octets) = false
is_answer_on own (Credit stream octets) = false
is_answer_on own (Unreadable stream) = false

-- an event of this server is what an event of the other server is: an acknowledgement, an error, or an answer on the same
-- stream; and an answer of the other one, where this one resets the stream (RFC 9113, 8.1.1). The other way round the stream may be
-- reset for a later item
abbrev pub is_like : (own event : Event) → Bool
is_like (Goaway code) event = not (code == 0) && is_error_event event
is_like (Reset stream code) event = not (code == 0) && (is_error_event event || is_answer_on stream event)
is_like (Answered stream status ends) event = is_same_stream (Some stream) (answered_stream event)
is_like (Ended stream) event = is_same_stream (Some stream) (answered_stream event)
is_like Acknowledged event = is_acknowledgement event
is_like (Pong octets) event = is_pong_like octets event
is_like (Credit stream octets) event = false
is_like (Unreadable stream) event = false

-- the first event that is like another: after which item it came, and the events after it
abbrev pub behind_like : List Seen → Event → Option (ℕ × List Seen)
behind_like [] event = None
behind_like (e ∷ es) event = if is_like e.event event then Some (e.after, es) else behind_like es event

-- the same by the place after it
abbrev pub behind_place : List Seen → ℕ × ℕ → ℕ × List Seen
behind_place own found = (found.0, drop found.1 own)

-- the item after which an event is put that this server has not: the last one for an error
abbrev pub place_without : Event → (after last : ℕ) → ℕ
place_without event after last = if is_error_event event then last else after

-- the next event is put after an item, and then those after it
abbrev pub aligned_by : Option (ℕ × List Seen) → (own : List Seen) → (after last : ℕ) → Event → (List Seen → ℕ → List Seen) → List Seen
aligned_by (Some found) own after last event follow = record { after = found.0; event = event } ∷ follow found.1 found.0
aligned_by None own after last event follow = let here = place_without event after last in record { after = here; event = event } ∷ follow own here

-- events that come after this item, by those of this server that are left
abbrev pub aligned : (own : List Seen) → (after last : ℕ) → List Seen → List Seen
aligned own after last [] = []
aligned own after last (e ∷ es) = aligned_by (behind_like own e.event) own after last e.event (λ own here. aligned own here last es)
