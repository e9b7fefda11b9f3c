-- What a peer grants and what it is sent, over a whole run and without any window of the connection (RFC 9113, 5.2,
-- 6.9 and 8.1).
-- A tally follows the connection and one stream, item by item, and six tests are made of it after each item. What
-- holds of one stream holds of each.
use Rattle.std.specs.Prelude.{◌≡◌, ℕ, ◌+◌, ◌≤◌, ◌⊎◌, Bool, true, false, ◌&&◌, ◌||◌, not, List, [], ◌∷◌, ◌++◌, length, nat_le, ◌==◌, if◌then◌else◌, Option, Some, None, is_some, Result, Ok, Err}
use Rattle.h2_spec.specs.declared.causes.Cause.{Cause}
use Rattle.h2_spec.specs.declared.connection.Config.{Config}
use Rattle.h2_spec.specs.declared.connection.Phase.{Phase}
use Rattle.h2_spec.specs.declared.connection.Purpose.TheVariants.{Request}
use Rattle.h2_spec.specs.declared.frames.Head.{Head}
use Rattle.h2_spec.specs.Frames.FrameType.{DATA, HEADERS, RST_STREAM, END_STREAM, END_HEADERS, has}
use Rattle.h2_spec.specs.Frames.Frame.{Frame, Item, Preface, BadPreface, WholeFrame, Oversize}
use Rattle.h2_spec.specs.Frames.Payload.{Part, OfData, OfHeaders, OfPriority, OfRstStream, OfSettings, OfSettingsAck, OfPushPromise, OfPing, OfGoaway, OfWindowUpdate, OfContinuation, OfUnknown, part_of}
use Rattle.h2_spec.specs.Settings.{SETTINGS_INITIAL_WINDOW_SIZE, SETTINGS_MAX_FRAME_SIZE}
use Rattle.h2_spec.specs.Hpack.Field.{Field}
use Rattle.h2_spec.specs.Requests.Request.{request_of}
use Rattle.h2_spec.specs.Requests.Answer.{Entry, pick_of, picked}
use Rattle.h2_spec.specs.State.{State, OpenBlock, Decoding, ended_code, opening}
use Rattle.h2_spec.specs.Requests.Headers.{decoded_with, fresh_decoding}
use Rattle.h2_spec.specs.Trace.{Event, trace}

-- ---- the tally

-- what is counted of the stream that is followed
pub record StreamTally : Type 0 where
  -- the octets that WINDOW_UPDATE granted on it
  pub granted : ℕ
  -- the body of the answer to its request, once that is whole
  pub promised : Option (List ℕ)
  -- how many HEADERS were sent on it
  pub headers : ℕ
  -- the payloads of the DATA sent on it, joined
  pub content : List ℕ
  -- whether END_STREAM was sent on it
  pub ended : Bool
  -- whether RST_STREAM was sent or received on it
  pub reset : Bool

-- and of the connection
pub record Tally : Type 0 where
  -- the initial window and the frame size that the peer's SETTINGS say now
  pub window : ℕ
  pub frame : ℕ
  -- the octets that WINDOW_UPDATE granted on it
  pub granted : ℕ
  -- the octets of DATA sent on all streams
  pub sent : ℕ
  pub on_stream : StreamTally

-- nothing of the stream has been received or sent
abbrev pub blank : StreamTally
blank = record { granted = 0; promised = None; headers = 0; content = []; ended = false; reset = false }

-- before anything came: the settings are those that a connection begins with (6.5.2)
abbrev pub start : Tally
start = record { window = 65535; frame = 16384; granted = 0; sent = 0; on_stream = blank }

-- ---- what comes

-- one setting (6.5.2)
abbrev pub with_setting : Tally → ℕ → ℕ → Tally
with_setting t id value =
    if id == SETTINGS_INITIAL_WINDOW_SIZE then record t { window = value }
    else if id == SETTINGS_MAX_FRAME_SIZE then record t { frame = value }
    else t

-- settings in order: the latest value of each is what holds now
abbrev pub with_settings : Tally → List (ℕ × ℕ) → Tally
with_settings t [] = t
with_settings t (p ∷ ps) = with_settings (with_setting t p.0 p.1) ps

-- the tally becomes this, where a frame is on the stream that is followed
abbrev pub with_tally_on : ℕ → ℕ → Tally → StreamTally → Tally
with_tally_on id stream t m = record t { on_stream = if stream == id then m else t.on_stream }

-- an increment is granted, on the connection or on a stream (6.9)
abbrev pub granted_on : ℕ → Tally → ℕ → ℕ → Tally
granted_on id t stream n =
    if stream == 0 then record t { granted = t.granted + n }
    else with_tally_on id stream t (record t.on_stream { granted = t.on_stream.granted + n })

-- the fields of the block that a fragment ends, as they are decoded in this state (4.3)
abbrev pub fields_at_end : State → Option Decoding → List ℕ → Bool → Option (List Field)
fields_at_end s (Some d) octets true = Some (decoded_with s d octets).progress.fields
fields_at_end s (Some d) octets false = None
fields_at_end s None octets end_headers = None

-- the body that is promised: of the answer to the first block of fields on the stream, which is its request
abbrev pub body_promised : List Entry → Option (List ℕ) → Option (List Field) → Option (List ℕ)
body_promised book (Some body) fields = Some body
body_promised book None None = None
body_promised book None (Some fields) = Some (picked book (pick_of book (request_of fields))).body

-- the tally with the body that these fields ask for
abbrev pub with_fields : List Entry → StreamTally → Option (List Field) → StreamTally
with_fields book m fields = record m { promised = body_promised book m.promised fields }

-- a fragment of a block on a stream
abbrev pub with_fragment : List Entry → ℕ → State → Tally → Head → Option Decoding → List ℕ → Tally
with_fragment book id s t h d octets = with_tally_on id h.stream t (with_fields book t.on_stream (fields_at_end s d octets (has h.flags END_HEADERS)))

-- how far the open block is decoded
abbrev pub open_decoding : Option OpenBlock → Option Decoding
open_decoding None = None
open_decoding (Some b) = b.decoding

-- a frame, by what it holds
abbrev pub received_part : List Entry → ℕ → State → Tally → Head → Part → Tally
received_part book id s t h (OfSettings pairs) = with_settings t pairs
received_part book id s t h (OfWindowUpdate increment) = granted_on id t h.stream increment
received_part book id s t h (OfRstStream code) = with_tally_on id h.stream t (record t.on_stream { reset = true })
received_part book id s t h (OfHeaders part) = with_fragment book id s t h (Some (fresh_decoding s Request)) part.fragment
received_part book id s t h (OfContinuation fragment) = with_fragment book id s t h (open_decoding s.block) fragment
received_part book id s t h (OfData part) = t
received_part book id s t h OfPriority = t
received_part book id s t h OfSettingsAck = t
received_part book id s t h OfPushPromise = t
received_part book id s t h (OfPing octets) = t
received_part book id s t h (OfGoaway last code) = t
received_part book id s t h OfUnknown = t

-- a frame, if its payload is one that its type allows
abbrev pub received_frame : List Entry → ℕ → State → Tally → Head → Result Part Cause → Tally
received_frame book id s t h (Ok part) = received_part book id s t h part
received_frame book id s t h (Err fault) = t

-- the tally with an item that comes in this state and does not end the connection
abbrev pub received : List Entry → ℕ → State → Tally → Item → Tally
received book id s t Preface = t
received book id s t BadPreface = t
received book id s t (Oversize h) = t
received book id s t (WholeFrame h p) = received_frame book id s t h (part_of h p)

-- ---- what is sent

-- a frame on the stream
abbrev pub tallied_by : StreamTally → Frame → StreamTally
tallied_by m f =
    if f.kind == DATA then record m { content = m.content ++ f.payload; ended = m.ended || has f.flags END_STREAM }
    else if f.kind == HEADERS then record m { headers = m.headers + 1; ended = m.ended || has f.flags END_STREAM }
    else if f.kind == RST_STREAM then record m { reset = true }
    else m

-- how many octets of DATA a frame has
abbrev pub data_length : Frame → ℕ
data_length f = if f.kind == DATA then length f.payload else 0

-- a frame on any stream
abbrev pub sent_one : ℕ → Tally → Frame → Tally
sent_one id t f = record t { sent = t.sent + data_length f; on_stream = if f.stream == id then tallied_by t.on_stream f else t.on_stream }

-- frames, one after another
abbrev pub sent_all : ℕ → Tally → List Frame → Tally
sent_all id t [] = t
sent_all id t (f ∷ fs) = sent_all id (sent_one id t f) fs

-- ---- the tests

-- a fact, where this holds
abbrev pub When : Bool → Type 0 → Type 0
When true P = P
When false P = Unit {0}

-- a fact of each frame that is sent and the tally before it
abbrev pub AtEach : (Tally → Frame → Type 0) → ℕ → Tally → List Frame → Type 0
AtEach P id t [] = Unit {0}
AtEach P id t (f ∷ fs) = P t f × AtEach P id (sent_one id t f) fs

-- HEADERS on the stream
abbrev pub is_headers_on : ℕ → Frame → Bool
is_headers_on id f = f.stream == id && f.kind == HEADERS

-- DATA on the stream
abbrev pub is_data_on : ℕ → Frame → Bool
is_data_on id f = f.stream == id && f.kind == DATA

-- whether DATA was sent on the stream
abbrev pub sends_data : ℕ → List Frame → Bool
sends_data id [] = false
sends_data id (f ∷ fs) = is_data_on id f || sends_data id fs

-- DATA sent on all streams is within the window that the connection begins with (6.9.2) and its increments
abbrev pub IsWithinConnection : Tally → Type 0
IsWithinConnection t = t.sent ≤ 65535 + t.granted

-- DATA sent on the stream is within the initial window now and the stream's increments
abbrev pub IsWithinStream : Tally → Type 0
IsWithinStream t = length t.on_stream.content ≤ t.window + t.on_stream.granted

-- DATA is no longer than the frame size now
abbrev pub IsWithinFrameSize : Tally → Frame → Type 0
IsWithinFrameSize t f = When (f.kind == DATA) (length f.payload ≤ t.frame)

-- HEADERS is the first on the stream, and DATA comes after it
abbrev pub IsInOrder : ℕ → Tally → Frame → Type 0
IsInOrder id t f = When (is_headers_on id f) (t.on_stream.headers ≡ 0) × When (is_data_on id f) (t.on_stream.headers ≡ 1)

-- the body that is promised, or none yet
abbrev pub body_or_nothing : Option (List ℕ) → List ℕ
body_or_nothing None = []
body_or_nothing (Some body) = body

-- octets that others begin with
abbrev pub IsPrefixOf : List ℕ → List ℕ → Type 0
IsPrefixOf xs ys = (rest : List ℕ) × (xs ++ rest ≡ ys)

-- the DATA sent begins the body that is promised, and is all of it where END_STREAM was sent
abbrev pub IsOfBody : StreamTally → Type 0
IsOfBody m = IsPrefixOf m.content (body_or_nothing m.promised) × When m.ended (m.content ≡ body_or_nothing m.promised)

-- HEADERS and DATA come before END_STREAM, and each frame of the stream before RST_STREAM
abbrev pub IsBeforeEnd : ℕ → Tally → Frame → Type 0
IsBeforeEnd id t f = When (is_headers_on id f || is_data_on id f) (t.on_stream.ended ≡ false) × When (f.stream == id) (t.on_stream.reset ≡ false)

-- the answer has begun, and was neither ended nor cut off
abbrev pub is_unfinished : StreamTally → Bool
is_unfinished m = nat_le 1 m.headers && not m.ended && not m.reset

-- all that is granted on the connection is used, or all that is granted on the stream
abbrev pub IsUsedUp : Tally → Type 0
IsUsedUp t = (t.sent ≡ 65535 + t.granted) ⊎ (t.window + t.on_stream.granted ≤ length t.on_stream.content)

-- after one item: whether it ended the connection, the tally with what it brought, and the frames sent for it
pub record Meets (id : ℕ) (ends : Bool) (t : Tally) (sent : List Frame) : Type 0 where
  -- no more DATA than is granted on the connection
  pub within_connection : IsWithinConnection (sent_all id t sent)
  -- where DATA was sent on the stream: no more than is granted there now
  pub within_stream : When (sends_data id sent) (IsWithinStream (sent_all id t sent))
  -- no DATA longer than the frame size now
  pub within_frame_size : AtEach IsWithinFrameSize id t sent
  -- at most one HEADERS and no DATA before it; DATA is a prefix of the body that is promised, and the whole where
  -- END_STREAM was sent
  pub answers_once : AtEach (IsInOrder id) id t sent × IsOfBody (sent_all id t sent).on_stream
  -- no HEADERS or DATA after END_STREAM, and no frame on the stream after RST_STREAM either way
  pub silent_after_end : AtEach (IsBeforeEnd id) id t sent
  -- unless the item ended the connection: the rest of an answer waits for the peer to grant more
  pub nothing_held_back : When (not ends && is_unfinished (sent_all id t sent).on_stream) (IsUsedUp (sent_all id t sent))

-- ---- a run

-- whether the connection has ended
abbrev pub has_ended : Phase → Bool
has_ended phase = is_some (ended_code phase)

-- the tally with what an item brought; one that ends the connection brings nothing
abbrev pub received_by : List Entry → ℕ → State → Tally → Event → Tally
received_by book id s t e = if has_ended e.state.core.phase then t else received book id s t e.item

-- the tests, after each item of a run from this state
abbrev pub Keeps : List Entry → ℕ → State → Tally → List Event → Type 0
Keeps book id s t [] = Unit {0}
Keeps book id s t (e ∷ es) =
    let u = received_by book id s t e in
    Meets id (has_ended e.state.core.phase) u e.sent × Keeps book id e.state (sent_all id u e.sent) es

-- the law: the run of a connection over any octets keeps to what the peer grants, on each stream
abbrev pub KeepsGrants : List Entry → Config → List ℕ → Type 0
KeepsGrants book config octets = (id : ℕ) → 1 ≤ id → Keeps book id (opening book config) start (trace (opening book config) octets).events
