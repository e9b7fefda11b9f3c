-- Which frames are ignored, and why, said once more: by the type of a frame and the state of its stream, or what its
-- block is for (RFC 9113, 4.1, 5.1 and 6).
use Rattle.std.specs.Prelude.{ℕ, Bool, true, false, List, ◌==◌, if◌then◌else◌, Option, Some, None, Result, Ok, Err}
use Rattle.h2_spec.specs.declared.causes.Cause.{Cause}
use Rattle.h2_spec.specs.declared.frames.FrameType.{FrameType}
use Rattle.h2_spec.specs.declared.frames.FrameType.TheVariants as types
use Rattle.h2_spec.specs.declared.frames.Head.{Head}
use Rattle.h2_spec.specs.declared.ignored.Ignored.{Ignored}
use Rattle.h2_spec.specs.declared.ignored.Ignored.TheVariants.{Priority, UnknownType, SecondAcknowledgement, PingAcknowledgement, RstStreamOnSkipped, RstStreamOnClosed, RstStreamOnPeerReset, RstStreamOnReset, WindowUpdateOnSkipped, WindowUpdateOnClosed, WindowUpdateOnPeerReset, WindowUpdateOnReset, WindowUpdateByZero, DataOnReset, TableOnlyBlock}
use Rattle.h2_spec.specs.declared.streams.StreamState.{StreamState}
use Rattle.h2_spec.specs.declared.streams.StreamState.TheVariants.{Idle, Skipped, BothOpen, HalfRemote, HalfLocal, Ended, PeerReset, WeReset}
use Rattle.h2_spec.specs.Frames.FrameType.{ACK, frame_type, has}
use Rattle.h2_spec.specs.Frames.Frame.{Item, Preface, BadPreface, WholeFrame, Oversize}
use Rattle.h2_spec.specs.Requests.Headers.{fragment_ignored}
use Rattle.h2_spec.specs.Frames.Payload.{window_part}
use Rattle.h2_spec.specs.Stream.{stream_at}
use Rattle.h2_spec.specs.State.{State, OpenBlock, Decoding}
use Rattle.h2_spec.specs.Effect.{cause_of}

-- ---- by the type of a frame

-- RST_STREAM, by the stream's state (5.1)
abbrev pub reset_ignored : StreamState → Option Ignored
reset_ignored Idle = None
reset_ignored Skipped = Some RstStreamOnSkipped
reset_ignored BothOpen = None
reset_ignored HalfLocal = None
reset_ignored HalfRemote = None
reset_ignored Ended = Some RstStreamOnClosed
reset_ignored PeerReset = Some RstStreamOnPeerReset
reset_ignored WeReset = Some RstStreamOnReset

-- WINDOW_UPDATE by 1 or more, by the stream's state (5.1 and 6.9)
abbrev pub increment_ignored : StreamState → Option Ignored
increment_ignored Idle = None
increment_ignored Skipped = Some WindowUpdateOnSkipped
increment_ignored BothOpen = None
increment_ignored HalfLocal = None
increment_ignored HalfRemote = None
increment_ignored Ended = Some WindowUpdateOnClosed
increment_ignored PeerReset = Some WindowUpdateOnPeerReset
increment_ignored WeReset = Some WindowUpdateOnReset

-- by 0 where it is ignored, there is a reason of its own (6.9)
abbrev pub zero_or : Option Ignored → Bool → Option Ignored
zero_or None zero = None
zero_or (Some reason) true = Some WindowUpdateByZero
zero_or (Some reason) false = Some reason

-- WINDOW_UPDATE, by whether the increment is 0 and by the stream's state (5.1 and 6.9)
abbrev pub window_ignored : Bool → StreamState → Option Ignored
window_ignored zero kind = zero_or (increment_ignored kind) zero

-- whether an increment that is read is 0
abbrev pub is_zero : Result ℕ Cause → Bool
is_zero (Ok increment) = increment == 0
is_zero (Err cause) = false

-- this reason, on a stream that the server has reset
abbrev pub where_reset : Ignored → StreamState → Option Ignored
where_reset reason Idle = None
where_reset reason Skipped = None
where_reset reason BothOpen = None
where_reset reason HalfLocal = None
where_reset reason HalfRemote = None
where_reset reason Ended = None
where_reset reason PeerReset = None
where_reset reason WeReset = Some reason

-- this reason, where it holds
abbrev pub reason_if : Bool → Ignored → Option Ignored
reason_if true reason = Some reason
reason_if false reason = None

-- CONTINUATION, by the block that is decoded
abbrev pub decoding_ignored : Option Decoding → Option Ignored
decoding_ignored None = None
decoding_ignored (Some d) = fragment_ignored d.purpose

-- CONTINUATION, by the open block
abbrev pub block_ignored : Option OpenBlock → Option Ignored
block_ignored None = None
block_ignored (Some b) = decoding_ignored b.decoding

-- the state of the stream that a frame is on
abbrev pub kind_at : State → Head → StreamState
kind_at s h = (stream_at s.core.last s.streams h.stream).kind

-- SETTINGS, by whether it is an acknowledgement and whether one has arrived before (6.5.3)
abbrev pub settings_ignored : Bool → Bool → Option Ignored
settings_ignored true acked = reason_if acked SecondAcknowledgement
settings_ignored false acked = None

-- a frame without error, by its type: of what its payload holds only an increment of 0 matters
abbrev pub frame_ignored : State → Head → List ℕ → FrameType → Option Ignored
frame_ignored s h p types.Data = where_reset DataOnReset (kind_at s h)
frame_ignored s h p types.Headers = where_reset TableOnlyBlock (kind_at s h)
frame_ignored s h p types.Priority = Some Priority
frame_ignored s h p types.RstStream = reset_ignored (kind_at s h)
frame_ignored s h p types.Settings = settings_ignored (has h.flags ACK) s.core.acked
frame_ignored s h p types.PushPromise = None
frame_ignored s h p types.Ping = reason_if (has h.flags ACK) PingAcknowledgement
frame_ignored s h p types.Goaway = None
frame_ignored s h p types.WindowUpdate = if h.stream == 0 then None else window_ignored (is_zero (window_part p)) (kind_at s h)
frame_ignored s h p types.Continuation = block_ignored s.block
frame_ignored s h p (types.Unknown kind) = Some UnknownType

-- ---- an item

-- an item without error
abbrev pub item_ignored : State → Item → Option Ignored
item_ignored s Preface = None
item_ignored s BadPreface = None
item_ignored s (Oversize h) = None
item_ignored s (WholeFrame h p) = frame_ignored s h p (frame_type h.kind)

-- unless it results in an error
abbrev pub unless_caused : Option Cause → Option Ignored → Option Ignored
unless_caused (Some cause) reason = None
unless_caused None reason = reason

-- why an item is ignored, if it is
unfoldable pub ignored_as_listed : State → Item → Option Ignored
unfolding cause_of stream_at window_part
ignored_as_listed s item = unless_caused (cause_of s item) (item_ignored s item)
