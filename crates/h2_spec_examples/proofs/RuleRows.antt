-- Single rules of a connection on worked numbers, from the text of RFC 9113.
use Rattle.std.specs.Prelude.{◌≡◌, ℕ, Bool, true, false, List, [], ◌∷◌, map, is_some, refl, Option, Some, None, Result, Ok, Err, ℤ, pos}
use Rattle.h2_spec.specs.declared.causes.Cause.{Cause}
use Rattle.h2_spec.specs.declared.causes.Cause.TheVariants as cause
use Rattle.h2_spec.specs.declared.connection.ConnectionState.{ConnectionState}
use Rattle.h2_spec.specs.declared.connection.Phase.{Phase}
use Rattle.h2_spec.specs.declared.connection.Phase.TheVariants as phase
use Rattle.h2_spec.specs.declared.frames.Head.{Head}
use Rattle.h2_spec.specs.declared.reactions.BlockSummary.{BlockSummary}
use Rattle.h2_spec.specs.declared.reactions.ConnectionFrame.TheVariants.{SettingsAck, Credit}
use Rattle.h2_spec.specs.declared.reactions.Reaction.{Reaction}
use Rattle.h2_spec.specs.declared.reactions.Reaction.TheVariants.{ConnectionError, Continues}
use Rattle.h2_spec.specs.declared.reactions.RecordUpdate.TheVariants.{Put, Shift, Receive}
use Rattle.h2_spec.specs.declared.reactions.StreamFrame.{StreamFrame}
use Rattle.h2_spec.specs.declared.reactions.StreamFrame.TheVariants.{NoStreamFrame, Reset, StreamCredit}
use Rattle.h2_spec.specs.declared.reactions.StreamOutcome.{StreamOutcome}
use Rattle.h2_spec.specs.declared.streams.StreamState.{StreamState}
use Rattle.h2_spec.specs.declared.streams.StreamState.TheVariants.{Idle, Skipped, BothOpen, HalfRemote, HalfLocal, Ended, PeerReset, WeReset}
use Rattle.h2_spec.specs.declared.streams.Pick.TheVariants.{Listed, NotFound}
use Rattle.h2_spec.specs.declared.streams.Stream.{Stream}
use Rattle.h2_spec.specs.Stream.{not_live}
use Rattle.h2_spec.specs.State.{limits, opening_core}
use Rattle.h2_spec.specs.Change.{only_counts}
use Rattle.h2_spec.specs.Checks.{refusal, oversize}
use Rattle.h2_spec.specs.Requests.Headers.{request_outcome, trailers_outcome}
use Rattle.h2_spec.specs.SettingsFrame.{settings_rule, comes_into_force}
use Rattle.h2_spec.specs.WindowUpdate.{connection_window, window_outcome}
use Rattle.h2_spec.specs.Effect.{on_data, on_reset, on_window}

-- a connection of which the settings are exchanged, with a stream 1
abbrev running : ConnectionState
running = record opening_core { phase = phase.Running; last = 1; acked = true }

-- stream 1 in a state, with the windows that it began with
abbrev stream : StreamState → Stream
stream kind = record { id = 1; kind = kind; numbers = record { recv = pos 65535; owed = 0; send = pos 65535; content_received = 0; declared = None; body_remaining = None }; pick = NotFound }

-- the error that ends the connection
abbrev error_of : Reaction → Option Cause
error_of (ConnectionError cause) = Some cause
error_of (Continues change) = None

-- ---- DATA (6.1 and 6.9)

-- DATA with that many octets, that many of them content, on stream 1, where credit is given back from a threshold on
data_on : ℕ → ℕ → ℕ → StreamState → Reaction
unfolding on_data
data_on threshold octets content kind = on_data (limits 100 threshold) running 0 (record { octets = octets; content = content; ends = false }) (stream kind)

-- three octets of payload take three from both windows, though one of them is content
payload_is_counted_and_not_content_alone : data_on 4 3 1 BothOpen ≡ Continues (record (only_counts (record running { recv = pos 65532; owed = 3 })) {
  record_update = Put (record (stream BothOpen) { numbers = record (stream BothOpen).numbers { recv = pos 65532; owed = 3; content_received = 1 } });
})
unfolding data_on
payload_is_counted_and_not_content_alone = refl

payload_is_given_back_at_the_threshold : data_on 3 3 1 BothOpen ≡ Continues (record (only_counts running) {
  record_update = Put (record (stream BothOpen) { numbers = record (stream BothOpen).numbers { content_received = 1 } });
  connection_frame = Credit 3;
  stream_frame = StreamCredit 1 3;
})
unfolding data_on
payload_is_given_back_at_the_threshold = refl

-- a stream error of type STREAM_CLOSED (5.1, half-closed (remote))
data_after_the_end_of_the_peer_is_counted_and_refused : data_on 65535 5 5 HalfRemote ≡ Continues (record (only_counts (record running { recv = pos 65530; owed = 5 })) {
  record_update = Put (not_live 1 WeReset);
  stream_frame = Reset 1 cause.DataAfterEndStream;
})
unfolding data_on
data_after_the_end_of_the_peer_is_counted_and_refused = refl

data_fills_a_window_and_no_more : map (λ (octets : ℕ). error_of (data_on 65535 octets octets BothOpen)) (65535 ∷ 65536 ∷ []) ≡ None ∷ Some cause.ConnectionWindowExceeded ∷ []
unfolding data_on
data_fills_a_window_and_no_more = refl

-- ---- the states of a stream (5.1)

-- why DATA, RST_STREAM and WINDOW_UPDATE are connection errors on a stream in a state
errors : StreamState → Option Cause × Option Cause × Option Cause
unfolding data_on on_reset on_window
errors kind = (error_of (data_on 65535 1 1 kind), error_of (on_reset running (stream kind)), error_of (on_window running 1 (stream kind)))

abbrev states : List (StreamState × Option Cause × Option Cause × Option Cause)
states =
    -- any frame but HEADERS and PRIORITY is a connection error of type PROTOCOL_ERROR
    (Idle, Some cause.DataOnIdle, Some cause.RstStreamOnIdle, Some cause.WindowUpdateOnIdle) ∷
    (BothOpen, None, None, None) ∷
    (HalfRemote, None, None, None) ∷
    (HalfLocal, None, None, None) ∷
    -- WINDOW_UPDATE and RST_STREAM can still be under way when a stream is closed
    (Skipped, Some cause.DataOnSkipped, None, None) ∷
    (Ended, Some cause.DataOnClosed, None, None) ∷
    (PeerReset, Some cause.DataOnClosed, None, None) ∷
    -- what comes after RST_STREAM was sent is processed and then discarded
    (WeReset, None, None, None) ∷ []

abbrev State : Type 0
State = StreamState × Option Cause × Option Cause × Option Cause

abbrev errors_wanted : State → Option Cause × Option Cause × Option Cause
errors_wanted row = (row.1, row.2, row.3)

frames_come_in_each_state_of_a_stream : map (λ (row : State). errors row.0) states ≡ map errors_wanted states
unfolding errors
frames_come_in_each_state_of_a_stream = refl

-- ---- WINDOW_UPDATE (6.9 and 6.9.1)

abbrev send_window_of : Reaction → Result ℤ Cause
send_window_of (ConnectionError cause) = Err cause
send_window_of (Continues change) = Ok change.core.send

abbrev connection_windows : List (ℕ × Result ℤ Cause)
connection_windows =
    (0, Err cause.ConnectionIncrementZero) ∷
    (1, Ok (pos 65536)) ∷
    (2147418112, Ok (pos 2147483647)) ∷
    (2147418113, Err cause.ConnectionWindowOverflow) ∷ []

increments_of_the_connection : map (λ (row : ℕ × Result ℤ Cause). send_window_of (connection_window running row.0)) connection_windows ≡ map (λ (row : ℕ × Result ℤ Cause). row.1) connection_windows
unfolding connection_window
increments_of_the_connection = refl

-- an increment, the stream's send window, and what is sent
abbrev stream_windows : List (ℕ × ℤ × StreamFrame)
stream_windows =
    (0, pos 0, Reset 1 cause.StreamIncrementZero) ∷
    (1, pos 65536, NoStreamFrame) ∷
    (2147418112, pos 2147483647, NoStreamFrame) ∷
    (2147418113, pos 0, Reset 1 cause.StreamWindowOverflow) ∷ []

abbrev window_and_frame : StreamOutcome → ℤ × StreamFrame
window_and_frame outcome = (outcome.stream.numbers.send, outcome.frame)

abbrev window_wanted : ℕ × ℤ × StreamFrame → ℤ × StreamFrame
window_wanted row = (row.1, row.2)

increments_of_a_stream : map (λ (row : ℕ × ℤ × StreamFrame). window_and_frame (window_outcome row.0 (stream HalfRemote))) stream_windows ≡ map window_wanted stream_windows
unfolding window_outcome
increments_of_a_stream = refl

-- ---- SETTINGS (6.5 and 6.9.2)

-- 4 is SETTINGS_INITIAL_WINDOW_SIZE, 2 is SETTINGS_ENABLE_PUSH; the window of the connection is not moved
settings_are_taken_and_acknowledged : settings_rule [] running ((4, 1000) ∷ (2, 0) ∷ []) ≡ Continues (record (only_counts (record running { peer = record running.peer { window = 1000; push = 0 } })) {
  record_update = Shift 65535 1000;
  connection_frame = SettingsAck;
})
unfolding settings_rule
settings_are_taken_and_acknowledged = refl

-- a stream with a full send window
abbrev full : Stream
full = record (stream BothOpen) { numbers = record (stream BothOpen).numbers { send = pos 2147483647 } }

-- the first one that is refused decides, and nothing of the frame stays
settings_are_taken_whole_or_not_at_all :
    settings_rule [] running ((4, 1000) ∷ (2, 2) ∷ []) ∷
    settings_rule [] running ((4, 2147483648) ∷ (2, 2) ∷ []) ∷
    settings_rule (full ∷ []) running ((4, 65536) ∷ []) ∷ []
    ≡ ConnectionError cause.EnablePushValue ∷ ConnectionError cause.InitialWindowSizeValue ∷ ConnectionError cause.InitialWindowSizeOverflow ∷ []
unfolding settings_rule
settings_are_taken_whole_or_not_at_all = refl

-- the receive windows of streams move by the change of the initial window, and no frame is sent (6.5.3)
settings_come_into_force_at_their_acknowledgement : comes_into_force (record running { acked = false }) (record { table = 100; window = 10; frame = 20000 })
    ≡ record (only_counts (record running { own = record { table = 100; window = 10; frame = 20000 } })) { record_update = Receive 65535 10 }
settings_come_into_force_at_their_acknowledgement = refl

-- ---- requests and trailers (5.1.2, 8.1, 8.1.1 and 10.5.1)

abbrev Outcome : Type 0
Outcome = StreamState × StreamFrame × Bool

abbrev told : StreamOutcome → Outcome
told outcome = (outcome.stream.kind, outcome.frame, is_some outcome.answer)

abbrev refused : Cause → Outcome
refused cause = (WeReset, Reset 1 cause, false)

abbrev ended : Outcome
ended = (Ended, NoStreamFrame, true)

abbrev summary : ℕ → Option ℕ → BlockSummary
summary size declared = record { size = size; malformed = None; declared = declared; pick = NotFound }

-- how many streams live where two may, the size of the list of fields, and the content that is declared, of a request
-- that ends its side
abbrev requests : List (ℕ × ℕ × Option ℕ × Outcome)
requests =
    (1, 42, None, ended) ∷
    (2, 42, None, refused cause.TooManyStreams) ∷
    (0, 65536, None, ended) ∷
    (0, 65537, None, refused cause.ListTooLarge) ∷
    (0, 42, Some 0, ended) ∷
    (0, 42, Some 1, refused cause.ContentMissing) ∷ []

requests_at_their_limits : map (λ (row : ℕ × ℕ × Option ℕ × Outcome). told (request_outcome (limits 2 1) row.0 0 false running 1 true (summary row.1 row.2))) requests
    ≡ map (λ (row : ℕ × ℕ × Option ℕ × Outcome). row.3) requests
unfolding request_outcome
requests_at_their_limits = refl

-- the length of the answer's body, whether the answer is early, whether the request has ended; and the stream's state,
-- the rest of the body, and whether the answer begins
abbrev beginnings : List (ℕ × Bool × Bool × StreamState × Option ℕ × Bool)
beginnings =
    -- half-closed (local) where END_STREAM is sent first (5.1)
    (0, true, false, HalfLocal, None, true) ∷
    (2, true, false, BothOpen, Some 2, true) ∷
    (0, false, false, BothOpen, None, false) ∷
    (2, false, false, BothOpen, None, false) ∷
    -- where the request has ended there is no difference
    (0, true, true, Ended, None, true) ∷
    (2, true, true, HalfRemote, Some 2, true) ∷
    (2, false, true, HalfRemote, Some 2, true) ∷ []

abbrev begun : StreamOutcome → StreamState × Option ℕ × Bool
begun outcome = (outcome.stream.kind, outcome.stream.numbers.body_remaining, is_some outcome.answer)

abbrev begun_wanted : ℕ × Bool × Bool × StreamState × Option ℕ × Bool → StreamState × Option ℕ × Bool
begun_wanted row = (row.3, row.4, row.5)

early_answers_begin_at_the_end_of_the_fields : map (λ (row : ℕ × Bool × Bool × StreamState × Option ℕ × Bool). begun (request_outcome (limits 1 1) 0 row.0 row.1 running 1 row.2 (record (summary 42 None) { pick = Listed 0 }))) beginnings
    ≡ map begun_wanted beginnings
unfolding request_outcome
early_answers_begin_at_the_end_of_the_fields = refl

-- the size of the list, why the trailers are malformed, if they are, and whether they end the side of the peer
abbrev trailers : List (ℕ × Option Cause × Bool × Outcome)
trailers =
    (42, None, true, ended) ∷
    (42, None, false, refused cause.TrailersWithoutEndStream) ∷
    (42, Some cause.TrailersPseudoField, true, refused cause.TrailersPseudoField) ∷
    (42, Some cause.TrailersPseudoField, false, refused cause.TrailersPseudoField) ∷
    (65537, None, true, refused cause.ListTooLarge) ∷ []

trailers_end_the_side_of_the_peer : map (λ (row : ℕ × Option Cause × Bool × Outcome). told (trailers_outcome row.0 row.1 0 row.2 (stream BothOpen))) trailers
    ≡ map (λ (row : ℕ × Option Cause × Bool × Outcome). row.3) trailers
unfolding trailers_outcome
trailers_end_the_side_of_the_peer = refl

-- ---- heads

abbrev head : ℕ → ℕ → ℕ → ℕ → Head
head length kind flags stream = record { length = length; kind = kind; flags = flags; reserved = false; stream = stream }

-- the stream of an open block, the phase, the type, the flags and the stream of a frame, and why it is refused
abbrev heads : List (Option ℕ × Phase × ℕ × ℕ × ℕ × Option Cause)
heads =
    -- the first frame is SETTINGS (3.4)
    (None, phase.Settings, 4, 0, 0, None) ∷
    (None, phase.Settings, 4, 1, 0, Some cause.FirstIsSettingsAck) ∷
    (None, phase.Settings, 6, 0, 0, Some cause.FirstNotSettings) ∷
    -- only CONTINUATION of the same stream is allowed inside a block (6.10)
    (Some 1, phase.Running, 9, 0, 1, None) ∷
    (Some 1, phase.Running, 9, 0, 3, Some cause.BlockInterrupted) ∷
    (Some 1, phase.Running, 0, 0, 1, Some cause.BlockInterrupted) ∷
    -- DATA, HEADERS, RST_STREAM and CONTINUATION are on a stream (6.1, 6.2, 6.4 and 6.10), SETTINGS, PING and GOAWAY
    -- are on none (6.5, 6.7 and 6.8), WINDOW_UPDATE is on either (6.9)
    (None, phase.Running, 0, 0, 0, Some cause.DataOnStreamZero) ∷
    (None, phase.Running, 1, 0, 0, Some cause.HeadersOnStreamZero) ∷
    (None, phase.Running, 3, 0, 0, Some cause.RstStreamOnStreamZero) ∷
    (None, phase.Running, 9, 0, 0, Some cause.ContinuationOnStreamZero) ∷
    (None, phase.Running, 4, 0, 1, Some cause.SettingsOnStream) ∷
    (None, phase.Running, 6, 0, 1, Some cause.PingOnStream) ∷
    (None, phase.Running, 7, 0, 1, Some cause.GoawayOnStream) ∷
    (None, phase.Running, 8, 0, 0, None) ∷
    (None, phase.Running, 8, 0, 1, None) ∷
    -- an unknown type is anywhere (5.5)
    (None, phase.Running, 99, 0, 0, None) ∷ []

heads_are_refused_for_where_they_are : map (λ (row : Option ℕ × Phase × ℕ × ℕ × ℕ × Option Cause). refusal row.0 row.1 (head 0 row.2 row.3 row.4)) heads
    ≡ map (λ (row : Option ℕ × Phase × ℕ × ℕ × ℕ × Option Cause). row.5) heads
unfolding refusal
heads_are_refused_for_where_they_are = refl

-- the type and the stream of a frame of 16385 octets (4.2): an error in the size of a frame that carries a field block
-- or SETTINGS, or of one on stream 0, is one of the connection
abbrev too_long : List (ℕ × ℕ × Cause)
too_long =
    (0, 1, cause.StreamFrameTooLarge) ∷
    (0, 0, cause.FrameTooLarge) ∷
    (1, 1, cause.FrameTooLarge) ∷
    (4, 1, cause.FrameTooLarge) ∷
    (8, 1, cause.StreamFrameTooLarge) ∷ []

frames_are_too_long_for_the_connection_or_a_stream : map (λ (row : ℕ × ℕ × Cause). oversize (head 16385 row.0 0 row.1)) too_long ≡ map (λ (row : ℕ × ℕ × Cause). row.2) too_long
unfolding oversize
frames_are_too_long_for_the_connection_or_a_stream = refl
