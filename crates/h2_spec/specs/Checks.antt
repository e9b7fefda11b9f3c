-- The checks of a frame before it is looked at by its type (RFC 9113, 3.4, 6 and 6.10).
use Rattle.std.specs.Prelude.{ℕ, Bool, true, false, ◌&&◌, ◌||◌, not, ◌==◌, if◌then◌else◌, Option, Some, None}
use Rattle.h2_spec.specs.declared.causes.Cause.{Cause}
use Rattle.h2_spec.specs.declared.causes.Cause.TheVariants.{FrameTooLarge, StreamFrameTooLarge, BlockInterrupted, FirstNotSettings, FirstIsSettingsAck, DataOnStreamZero, HeadersOnStreamZero, PriorityOnStreamZero, RstStreamOnStreamZero, ContinuationOnStreamZero, SettingsOnStream, PingOnStream, GoawayOnStream}
use Rattle.h2_spec.specs.declared.connection.Phase.{Phase}
use Rattle.h2_spec.specs.declared.connection.Phase.TheVariants as phase
use Rattle.h2_spec.specs.declared.frames.FrameType.{FrameType}
use Rattle.h2_spec.specs.declared.frames.FrameType.TheVariants.{Data, Headers, Priority, RstStream, Settings, PushPromise, Ping, Goaway, WindowUpdate, Continuation, Unknown}
use Rattle.h2_spec.specs.declared.frames.Head.{Head}
use Rattle.h2_spec.specs.Causes.Cause.{first_of}
use Rattle.h2_spec.specs.Frames.FrameType.{CONTINUATION, SETTINGS, ACK, frame_type, has}

-- inside a block on this stream, what is no CONTINUATION of it (6.10)
unfoldable pub interrupts : Option ℕ → Head → Bool
interrupts None h = false
interrupts (Some stream) h = not (h.kind == CONTINUATION && h.stream == stream)

-- the first frame is SETTINGS without ACK (3.4)
abbrev pub early_as : Head → Option Cause
early_as h =
    if not (h.kind == SETTINGS) then Some FirstNotSettings
    else if has h.flags ACK then Some FirstIsSettingsAck
    else None

-- a first frame that is refused
unfoldable pub early : Phase → Head → Option Cause
early phase.Preface h = None
early phase.Settings h = early_as h
early phase.Running h = None
early (phase.Ended code) h = None

-- why a frame of a type is not allowed on stream 0 (6)
abbrev pub on_zero : FrameType → Option Cause
on_zero Data = Some DataOnStreamZero
on_zero Headers = Some HeadersOnStreamZero
on_zero Priority = Some PriorityOnStreamZero
on_zero RstStream = Some RstStreamOnStreamZero
on_zero Settings = None
on_zero PushPromise = None
on_zero Ping = None
on_zero Goaway = None
on_zero WindowUpdate = None
on_zero Continuation = Some ContinuationOnStreamZero
on_zero (Unknown kind) = None

-- why a frame of a type is not allowed on another stream (6)
abbrev pub on_stream : FrameType → Option Cause
on_stream Data = None
on_stream Headers = None
on_stream Priority = None
on_stream RstStream = None
on_stream Settings = Some SettingsOnStream
on_stream PushPromise = None
on_stream Ping = Some PingOnStream
on_stream Goaway = Some GoawayOnStream
on_stream WindowUpdate = None
on_stream Continuation = None
on_stream (Unknown kind) = None

-- why a frame is not allowed where it is
unfoldable pub misplaced : Head → Option Cause
misplaced h = if h.stream == 0 then on_zero (frame_type h.kind) else on_stream (frame_type h.kind)

-- the first of these checks that fails; the open block's stream, if there is one
unfoldable pub refusal : Option ℕ → Phase → Head → Option Cause
unfolding interrupts early misplaced
refusal block phase h = if interrupts block h then Some BlockInterrupted else first_of (early phase h) (misplaced h)

-- whether an error in a frame's size always is one of the connection: of a frame that carries a field block, of SETTINGS, and on stream 0 (4.2)
abbrev pub concerns_connection : FrameType → Bool
concerns_connection Data = false
concerns_connection Headers = true
concerns_connection Priority = false
concerns_connection RstStream = false
concerns_connection Settings = true
concerns_connection PushPromise = true
concerns_connection Ping = true
concerns_connection Goaway = true
concerns_connection WindowUpdate = false
concerns_connection Continuation = true
concerns_connection (Unknown kind) = false

-- why a frame above the longest one is refused (4.2)
unfoldable pub oversize : Head → Cause
oversize h = if h.stream == 0 || concerns_connection (frame_type h.kind) then FrameTooLarge else StreamFrameTooLarge
