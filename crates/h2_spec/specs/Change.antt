-- What an item changes and what is sent for it (RFC 9113, 5.4).
use Rattle.std.specs.Prelude.{ℕ, ◌+◌, Bool, true, false, ◌&&◌, List, [], ◌∷◌, ◌++◌, length, map, ◌==◌, if◌then◌else◌, Option, Some, None, ℤ, pos, ◌+ℤ◌, ◌-ℤ◌}
use Rattle.h2_spec.specs.declared.causes.Cause.{Cause}
use Rattle.h2_spec.specs.declared.connection.ConnectionState.{ConnectionState}
use Rattle.h2_spec.specs.declared.connection.Phase.TheVariants as phase
use Rattle.h2_spec.specs.declared.errors.ErrorCode.{ErrorCode}
use Rattle.h2_spec.specs.declared.ignored.Ignored.{Ignored}
use Rattle.h2_spec.specs.declared.reactions.AnswerStart.{AnswerStart}
use Rattle.h2_spec.specs.declared.reactions.Change.{Change}
use Rattle.h2_spec.specs.declared.reactions.ConnectionFrame.{ConnectionFrame}
use Rattle.h2_spec.specs.declared.reactions.ConnectionFrame.TheVariants.{NoConnectionFrame, SettingsAck, PingAck, Credit}
use Rattle.h2_spec.specs.declared.reactions.StreamFrame.{StreamFrame}
use Rattle.h2_spec.specs.declared.reactions.StreamFrame.TheVariants.{NoStreamFrame, Reset, StreamCredit}
use Rattle.h2_spec.specs.declared.reactions.RecordUpdate.{RecordUpdate}
use Rattle.h2_spec.specs.declared.reactions.RecordUpdate.TheVariants.{Unchanged, Put, Shift, Receive}
use Rattle.h2_spec.specs.declared.reactions.StreamOutcome.{StreamOutcome}
use Rattle.h2_spec.specs.declared.streams.Pick.{Pick}
use Rattle.h2_spec.specs.declared.streams.StreamState.{StreamState}
use Rattle.h2_spec.specs.declared.streams.StreamState.TheVariants.{Idle, Skipped, BothOpen, HalfRemote, HalfLocal, Ended, PeerReset, WeReset}
use Rattle.h2_spec.specs.declared.streams.Stream.{Stream}
use Rattle.h2_spec.specs.Octets.{big_endian}
use Rattle.h2_spec.specs.Frames.FrameType.{HEADERS, RST_STREAM, SETTINGS, PING, GOAWAY, WINDOW_UPDATE, END_STREAM, END_HEADERS, ACK}
use Rattle.h2_spec.specs.Frames.Frame.{Frame}
use Rattle.h2_spec.specs.Causes.Cause.{code_of}
use Rattle.h2_spec.specs.Causes.Errors.{code_number}
use Rattle.h2_spec.specs.Window.{is_above_max}
use Rattle.h2_spec.specs.Stream.{is_live, not_live, put}
use Rattle.h2_spec.specs.State.{State, OpenBlock}
use Rattle.h2_spec.specs.Requests.Answer.{Answer, Entry, picked, response_block}

-- ---- rules of one stream

-- the stream's record, with nothing sent
abbrev pub outcome_without_frame : Stream → StreamOutcome
outcome_without_frame st = record { stream = st; frame = NoStreamFrame; answer = None }

-- a stream error (5.4.2)
abbrev pub stream_error : ℕ → Cause → StreamOutcome
stream_error id cause = record { stream = not_live id WeReset; frame = Reset id cause; answer = None }

-- a stream error where there is a cause for one
abbrev pub unless_broken : Option Cause → ℕ → StreamOutcome → StreamOutcome
unless_broken (Some cause) id turn = stream_error id cause
unless_broken None id turn = turn

-- ---- changes

-- nothing but the counts changes, and nothing is sent
abbrev pub only_counts : ConnectionState → Change
only_counts core = record { core = core; record_update = Unchanged; connection_frame = NoConnectionFrame; stream_frame = NoStreamFrame; answer = None; ignored = None }

-- what changes for an item that is ignored for this reason
abbrev pub ignoring : Ignored → Change → Change
ignoring reason c = record c { ignored = Some reason }

-- whether the next response begins with a table size update (RFC 7541, 4.2)
abbrev pub with_size_update_pending : ConnectionState → Bool → ConnectionState
with_size_update_pending core size_update_pending = record core { peer = record core.peer { size_update_pending = size_update_pending } }

-- the answer that begins on a stream, if one does: its block begins with a table size update where one is pending
abbrev pub answer_begun : Bool → ℕ → Option Pick → Option AnswerStart
answer_begun pending id None = None
answer_begun pending id (Some pick) = Some (record { id = id; pick = pick; size_update_pending = pending })

-- whether one is still pending after it
abbrev pub still_pending : Bool → Option Pick → Bool
still_pending pending None = pending
still_pending pending (Some pick) = false

-- a change, and then what a rule does to one stream
unfoldable pub with_outcome : Change → StreamOutcome → Change
with_outcome c t = record {
  core = with_size_update_pending c.core (still_pending c.core.peer.size_update_pending t.answer);
  record_update = Put t.stream;
  connection_frame = c.connection_frame;
  stream_frame = t.frame;
  answer = answer_begun c.core.peer.size_update_pending t.stream.id t.answer;
  ignored = None;
}

-- streams whose send windows settings move (6.9.2)
abbrev pub follows_initial_window : StreamState → Bool
follows_initial_window Idle = false
follows_initial_window Skipped = false
follows_initial_window BothOpen = true
follows_initial_window HalfRemote = true
follows_initial_window HalfLocal = false
follows_initial_window Ended = false
follows_initial_window PeerReset = false
follows_initial_window WeReset = false

-- with this send window
abbrev pub with_send : Stream → ℤ → Stream
with_send st w = record st { numbers = record st.numbers { send = w } }

-- a stream as settings move its send window
abbrev pub shifted_one : ℤ → Stream → Stream
shifted_one d st = if follows_initial_window st.kind then with_send st (st.numbers.send +ℤ d) else st

-- all streams as settings move their send windows (6.9.2)
unfoldable pub shifted : ℤ → List Stream → List Stream
shifted d streams = map (shifted_one d) streams

-- whether settings take the stream's send window too far (6.9.2)
abbrev pub overflows_one : ℤ → Stream → Bool
overflows_one d st = follows_initial_window st.kind && is_above_max (st.numbers.send +ℤ d)

-- whether a window would pass the largest one
unfoldable pub overflows : ℤ → List Stream → Bool
overflows d [] = false
overflows d (st ∷ sts) = if overflows_one d st then true else overflows d sts

-- with this receive window
abbrev pub with_recv : Stream → ℤ → Stream
with_recv st w = record st { numbers = record st.numbers { recv = w } }

-- a live stream with its receive window moved
abbrev pub received_one : ℤ → Stream → Stream
received_one d st = if is_live st.kind then with_recv st (st.numbers.recv +ℤ d) else st

-- all streams as the server's own initial window moves their receive windows, once the peer has acknowledged it
-- (6.5.3 and 6.9.2)
unfoldable pub received : ℤ → List Stream → List Stream
received d streams = map (received_one d) streams

-- from one initial window to another
abbrev pub moved_by : ℕ → ℕ → ℤ
moved_by from to = pos to -ℤ pos from

-- the records after a change
abbrev pub updated_streams : RecordUpdate → List Stream → List Stream
updated_streams Unchanged streams = streams
updated_streams (Put st) streams = put st streams
updated_streams (Shift from to) streams = shifted (moved_by from to) streams
updated_streams (Receive from to) streams = received (moved_by from to) streams

-- the state after a change
abbrev pub after : State → Change → State
after s c = record s { core = c.core; streams = updated_streams c.record_update s.streams }

-- ---- the frames

-- GOAWAY of a connection error: the last stream, the code, and no more (6.8)
abbrev pub goaway : ℕ → ErrorCode → Frame
goaway last code = record { kind = GOAWAY; flags = 0; stream = 0; payload = big_endian 4 last ++ big_endian 4 (code_number code) }

-- RST_STREAM of a stream error (6.4)
abbrev pub rst_stream : ℕ → ErrorCode → Frame
rst_stream id code = record { kind = RST_STREAM; flags = 0; stream = id; payload = big_endian 4 (code_number code) }

-- WINDOW_UPDATE on the connection or on a stream (6.9)
abbrev pub window_update : ℕ → ℕ → Frame
window_update id n = record { kind = WINDOW_UPDATE; flags = 0; stream = id; payload = big_endian 4 n }

-- a flag, where this holds
abbrev pub flag_if : Bool → ℕ → ℕ
flag_if true f = f
flag_if false f = 0

-- the HEADERS of a response (8.1)
abbrev pub response : Bool → ℕ → Answer → Frame
response size_update_pending id a = record { kind = HEADERS; flags = END_HEADERS + flag_if (length a.body == 0) END_STREAM; stream = id; payload = response_block size_update_pending a.status a.fields }

-- what is sent on the connection
abbrev pub connection_frames : ConnectionFrame → List Frame
connection_frames NoConnectionFrame = []
connection_frames SettingsAck = record { kind = SETTINGS; flags = ACK; stream = 0; payload = [] } ∷ []
connection_frames (PingAck octets) = record { kind = PING; flags = ACK; stream = 0; payload = octets } ∷ []
connection_frames (Credit n) = window_update 0 n ∷ []

-- what is sent on a stream
abbrev pub stream_frames : StreamFrame → List Frame
stream_frames NoStreamFrame = []
stream_frames (Reset id cause) = rst_stream id (code_of cause) ∷ []
stream_frames (StreamCredit id n) = window_update id n ∷ []

-- HEADERS of an answer that begins
abbrev pub answer_frames : List Entry → Option AnswerStart → List Frame
answer_frames book None = []
answer_frames book (Some a) = response a.size_update_pending a.id (picked book a.pick) ∷ []

-- what is sent for an item, in the order of its parts
unfoldable pub frames_of : List Entry → Change → List Frame
frames_of book c = connection_frames c.connection_frame ++ stream_frames c.stream_frame ++ answer_frames book c.answer

-- a state and the frames sent on the way to it
pub record Step : Type 0 where
  pub state : State
  pub sent : List Frame

-- an open block is decoded no more
abbrev pub only_shown : Option OpenBlock → Option OpenBlock
only_shown None = None
only_shown (Some b) = Some (record b { decoding = None })

-- a connection error changes the phase alone, and ends the decoding of an open block (5.4.1)
abbrev pub ended : State → ErrorCode → State
ended s code = record s { core = record s.core { phase = phase.Ended code }; block = only_shown s.block }

-- a connection error: GOAWAY is sent (5.4.1)
abbrev pub broken : State → Cause → Step
broken s cause = record { state = ended s (code_of cause); sent = goaway s.core.last (code_of cause) ∷ [] }

-- a change is made
abbrev pub made : State → Change → Step
made s c = record { state = after s c; sent = frames_of s.book c }
