-- What one item does to a connection (RFC 9113, 5 and 6).
use Rattle.std.specs.Prelude.{ℕ, Bool, List, length, ◌==◌, if◌then◌else◌, Option, Some, None, Result, Ok, Err}
use Rattle.h2_spec.specs.declared.causes.Cause.{Cause}
use Rattle.h2_spec.specs.declared.causes.Cause.TheVariants as cause
use Rattle.h2_spec.specs.declared.connection.Config.{Config}
use Rattle.h2_spec.specs.declared.connection.ConnectionState.{ConnectionState}
use Rattle.h2_spec.specs.declared.connection.Phase.TheVariants as phase
use Rattle.h2_spec.specs.declared.connection.Purpose.{Purpose}
use Rattle.h2_spec.specs.declared.frames.Head.{Head}
use Rattle.h2_spec.specs.declared.ignored.Ignored.{Ignored}
use Rattle.h2_spec.specs.declared.ignored.Ignored.TheVariants.{Priority, UnknownType, PingAcknowledgement}
use Rattle.h2_spec.specs.declared.reactions.ReceivedData.{ReceivedData}
use Rattle.h2_spec.specs.declared.reactions.ConnectionFrame.TheVariants.{PingAck}
use Rattle.h2_spec.specs.declared.reactions.Reaction.{Reaction}
use Rattle.h2_spec.specs.declared.reactions.Reaction.TheVariants.{ConnectionError, Continues}
use Rattle.h2_spec.specs.declared.reactions.StreamFrame.{StreamFrame}
use Rattle.h2_spec.specs.declared.reactions.StreamFrame.TheVariants.{NoStreamFrame, Reset, StreamCredit}
use Rattle.h2_spec.specs.declared.reactions.StreamOutcome.{StreamOutcome}
use Rattle.h2_spec.specs.declared.reactions.Verdict.{Verdict}
use Rattle.h2_spec.specs.declared.streams.StreamState.TheVariants.{PeerReset}
use Rattle.h2_spec.specs.declared.streams.Stream.{Stream}
use Rattle.h2_spec.specs.Frames.FrameType.{ACK, END_STREAM, END_HEADERS, has}
use Rattle.h2_spec.specs.Frames.Frame.{Item, Preface, BadPreface, WholeFrame, Oversize}
use Rattle.h2_spec.specs.Frames.Payload.{DataPart, HeadersPart, Part, OfData, OfHeaders, OfPriority, OfRstStream, OfSettings, OfSettingsAck, OfPushPromise, OfPing, OfGoaway, OfWindowUpdate, OfContinuation, OfUnknown, part_as, part_of}
use Rattle.h2_spec.specs.Hpack.Block.{decoded}
use Rattle.h2_spec.specs.Requests.Request.{malformed, malformed_trailers, declared_length, request_of}
use Rattle.h2_spec.specs.Requests.Answer.{Entry, picked, pick_of, response_block}
use Rattle.h2_spec.specs.Stream.{not_live, stream_at}
use Rattle.h2_spec.specs.State.{State, OpenBlock}
use Rattle.h2_spec.specs.Change.{Step, only_counts, ignoring, with_outcome, outcome_without_frame, broken, made, frames_of, shifted, received}
use Rattle.h2_spec.specs.Checks.{refusal, oversize}
use Rattle.h2_spec.specs.ReactionTable.{Cell, DataRule, Take, Refuse, Count, ResetRule, PeerResets, WindowRule, MoveWindow, data_cell, headers_cell, reset_cell, window_cell, run_cell}
use Rattle.h2_spec.specs.Data.{data_taken, data_refused, data_counted}
use Rattle.h2_spec.specs.WindowUpdate.{window_outcome, connection_window}
use Rattle.h2_spec.specs.SettingsFrame.{settings_rule, acknowledged}
use Rattle.h2_spec.specs.Requests.Headers.{FrameEffect, Breaks, Makes, makes, request_outcome, trailers_outcome, block_opens, continuation}

-- a frame is ignored for this reason, and nothing changes
abbrev pub ignore : ConnectionState → Ignored → Reaction
ignore core reason = Continues (ignoring reason (only_counts core))

-- ---- DATA

-- DATA by the rule that the table names
abbrev pub data_rule : DataRule → Config → ConnectionState → ℕ → ReceivedData → Stream → Reaction
data_rule Take config core body d st = data_taken config core body d st
data_rule (Refuse cause) config core body d st = data_refused config core d st cause
data_rule (Count reason) config core body d st = data_counted config core d reason

-- DATA that comes on a stream, with the length of the body of the stream's answer
unfoldable pub on_data : Config → ConnectionState → ℕ → ReceivedData → Stream → Reaction
unfolding data_taken data_refused data_counted
on_data config core body d st = run_cell ConnectionError (ignore core) (λ rule. data_rule rule config core body d st) (data_cell st.kind)

-- what a frame of DATA brings
abbrev pub incoming : Head → List ℕ → DataPart → ReceivedData
incoming h p part = record { octets = length p; content = length part.content; ends = has h.flags END_STREAM }

-- the length of the body of a stream's answer
abbrev pub body_length : List Entry → Stream → ℕ
body_length book st = length (picked book st.pick).body

-- ---- RST_STREAM and WINDOW_UPDATE

-- a live stream that the peer resets (6.4)
abbrev pub reset_outcome : Stream → StreamOutcome
reset_outcome st = outcome_without_frame (not_live st.id PeerReset)

-- RST_STREAM by the rule that the table names
abbrev pub reset_rule : ResetRule → ConnectionState → Stream → Reaction
reset_rule PeerResets core st = Continues (with_outcome (only_counts core) (reset_outcome st))

-- RST_STREAM that comes on a stream (6.4)
unfoldable pub on_reset : ConnectionState → Stream → Reaction
unfolding with_outcome
on_reset core st = run_cell ConnectionError (ignore core) (λ rule. reset_rule rule core st) (reset_cell st.kind)

-- WINDOW_UPDATE by the rule that the table names
abbrev pub window_rule : WindowRule → ConnectionState → ℕ → Stream → Reaction
window_rule MoveWindow core increment st = Continues (with_outcome (only_counts core) (window_outcome increment st))

-- WINDOW_UPDATE that comes on a stream (6.9)
unfoldable pub on_window : ConnectionState → ℕ → Stream → Reaction
unfolding with_outcome window_outcome
on_window core increment st = run_cell ConnectionError (ignore core) (λ rule. window_rule rule core increment st) (window_cell (increment == 0) st.kind)

-- ---- PING, GOAWAY and PUSH_PROMISE

-- PING (6.7): its octets are sent back, unless it is an answer itself, which is ignored
abbrev pub on_ping : ConnectionState → (is_answer : Bool) → List ℕ → Reaction
on_ping core is_answer octets = if is_answer then ignore core PingAcknowledgement else Continues (record (only_counts core) { connection_frame = PingAck octets })

-- GOAWAY (6.8): the last stream and the code of the latest one are kept
abbrev pub on_goaway : ConnectionState → ℕ → ℕ → Reaction
on_goaway core last code = Continues (only_counts (record core { goaway = Some (last, code) }))

-- PUSH_PROMISE, which a client may not send (8.4)
abbrev pub on_push_promise : Reaction
on_push_promise = ConnectionError cause.PushPromiseFromClient

-- ---- the rules on a state: DATA, RST_STREAM and WINDOW_UPDATE on a stream by its number

-- DATA on a stream
abbrev pub data_at : State → ℕ → ReceivedData → Reaction
data_at s id d = let st = stream_at s.core.last s.streams id in on_data s.config s.core (body_length s.book st) d st

-- RST_STREAM on a stream
abbrev pub reset_at : State → ℕ → Reaction
reset_at s id = on_reset s.core (stream_at s.core.last s.streams id)

-- WINDOW_UPDATE on a stream
abbrev pub window_at : State → ℕ → ℕ → Reaction
window_at s id increment = on_window s.core increment (stream_at s.core.last s.streams id)

-- WINDOW_UPDATE, on the connection or on a stream
abbrev pub on_window_update : State → ℕ → ℕ → Reaction
on_window_update s id increment = if id == 0 then connection_window s.core increment else window_at s id increment

-- SETTINGS without ACK
abbrev pub on_settings : State → List (ℕ × ℕ) → Reaction
on_settings s pairs = settings_rule s.streams s.core pairs

-- SETTINGS with ACK
abbrev pub on_settings_ack : State → Reaction
on_settings_ack s = acknowledged s.config s.core

-- ---- HEADERS

-- HEADERS by their cell of the table (6.2)
abbrev pub on_headers : State → Head → HeadersPart → Cell Purpose → FrameEffect
on_headers s h part cell = run_cell Breaks (λ reason. Makes s (ignoring reason (only_counts s.core))) (λ purpose. block_opens s purpose h part) cell

-- HEADERS on the stream that their head names
abbrev pub headers_at : State → Head → HeadersPart → FrameEffect
headers_at s h part = on_headers s h part (headers_cell h.stream (stream_at s.core.last s.streams h.stream).kind)

-- CONTINUATION (6.10)
abbrev pub on_continuation : State → Head → List ℕ → FrameEffect
on_continuation s h fragment = continuation s s.block fragment (has h.flags END_HEADERS)

-- ---- a frame that has passed the checks, by what it holds

-- a frame, by what it holds
abbrev pub frame_effect : State → Head → List ℕ → Part → FrameEffect
frame_effect s h p (OfData part) = makes s (data_at s h.stream (incoming h p part))
frame_effect s h p (OfHeaders part) = headers_at s h part
frame_effect s h p OfPriority = makes s (ignore s.core Priority)
frame_effect s h p (OfRstStream code) = makes s (reset_at s h.stream)
frame_effect s h p (OfSettings pairs) = makes s (on_settings s pairs)
frame_effect s h p OfSettingsAck = makes s (on_settings_ack s)
frame_effect s h p OfPushPromise = makes s on_push_promise
frame_effect s h p (OfPing octets) = makes s (on_ping s.core (has h.flags ACK) octets)
frame_effect s h p (OfGoaway last code) = makes s (on_goaway s.core last code)
frame_effect s h p (OfWindowUpdate increment) = makes s (on_window_update s h.stream increment)
frame_effect s h p (OfContinuation fragment) = on_continuation s h fragment
frame_effect s h p OfUnknown = makes s (ignore s.core UnknownType)

-- ---- an item

-- a payload of a bad length, or with too much padding, is a connection error
abbrev pub part_effect : State → Head → List ℕ → Result Part Cause → FrameEffect
part_effect s h p (Err cause) = Breaks cause
part_effect s h p (Ok part) = frame_effect s h p part

-- after the checks of the head
abbrev pub checked_effect : State → Head → List ℕ → Option Cause → FrameEffect
checked_effect s h p None = part_effect s h p (part_of h p)
checked_effect s h p (Some cause) = Breaks cause

-- the stream of the open block
abbrev pub block_stream : Option OpenBlock → Option ℕ
block_stream None = None
block_stream (Some b) = Some b.shown.stream

-- an item: the preface, a frame that is too large, or a frame
abbrev pub item_effect : State → Item → FrameEffect
item_effect s Preface = Makes s (only_counts (record s.core { phase = phase.Settings }))
item_effect s BadPreface = Breaks cause.BadPreface
item_effect s (Oversize h) = Breaks (oversize h)
item_effect s (WholeFrame h p) = checked_effect s h p (refusal (block_stream s.block) s.core.phase h)

-- what an item results in is done: a connection error, or a change
abbrev pub concluded : State → FrameEffect → Step
concluded s (Breaks cause) = broken s cause
concluded s (Makes t c) = made t c

-- the effect of one item
unfoldable pub effect : State → Item → Step
unfolding refusal oversize part_as on_data on_reset on_window connection_window settings_rule request_outcome trailers_outcome stream_at with_outcome decoded frames_of shifted received malformed malformed_trailers declared_length request_of pick_of response_block
effect s item = concluded s (item_effect s item)

-- ---- why

-- the cause of a stream error, where one is sent
abbrev pub stream_cause : StreamFrame → Option Cause
stream_cause NoStreamFrame = None
stream_cause (Reset id cause) = Some cause
stream_cause (StreamCredit id n) = None

-- the cause of the error that a frame results in
abbrev pub effect_cause : FrameEffect → Option Cause
effect_cause (Breaks cause) = Some cause
effect_cause (Makes t c) = stream_cause c.stream_frame

-- why the frame is ignored, if it is
abbrev pub effect_ignored : FrameEffect → Option Ignored
effect_ignored (Breaks cause) = None
effect_ignored (Makes t c) = c.ignored

-- how the frame is judged
abbrev pub effect_verdict : FrameEffect → Verdict
effect_verdict e = record { cause = effect_cause e; ignored = effect_ignored e }

-- why an item results in a connection error or a stream error, if it does (5.4)
unfoldable pub cause_of : State → Item → Option Cause
unfolding refusal oversize part_as on_data on_reset on_window connection_window settings_rule request_outcome trailers_outcome stream_at with_outcome decoded shifted received malformed malformed_trailers declared_length request_of pick_of
cause_of s item = effect_cause (item_effect s item)
