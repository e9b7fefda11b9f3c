-- Frame types and flags (RFC 9113, 6).
use Rattle.std.specs.Prelude.{ℕ, ◌/◌, ◌%◌, Bool, ◌==◌, List, [], ◌∷◌, Option, Some, codes, if◌then◌else◌}
use Rattle.std.specs.Str.{bytes_eq}
use Rattle.h2_spec.specs.declared.frames.FrameType.{FrameType}
use Rattle.h2_spec.specs.declared.frames.FrameType.TheVariants.{Data, Headers, Priority, RstStream, Settings, PushPromise, Ping, Goaway, WindowUpdate, Continuation, Unknown}

-- the numbers of the types
abbrev pub DATA : ℕ
DATA = 0

-- HEADERS (6.2)
abbrev pub HEADERS : ℕ
HEADERS = 1

-- PRIORITY (6.3)
abbrev pub PRIORITY : ℕ
PRIORITY = 2

-- RST_STREAM (6.4)
abbrev pub RST_STREAM : ℕ
RST_STREAM = 3

-- SETTINGS (6.5)
abbrev pub SETTINGS : ℕ
SETTINGS = 4

-- PUSH_PROMISE (6.6)
abbrev pub PUSH_PROMISE : ℕ
PUSH_PROMISE = 5

-- PING (6.7)
abbrev pub PING : ℕ
PING = 6

-- GOAWAY (6.8)
abbrev pub GOAWAY : ℕ
GOAWAY = 7

-- WINDOW_UPDATE (6.9)
abbrev pub WINDOW_UPDATE : ℕ
WINDOW_UPDATE = 8

-- CONTINUATION (6.10)
abbrev pub CONTINUATION : ℕ
CONTINUATION = 9

-- the type that a number represents
abbrev pub frame_type : ℕ → FrameType
frame_type kind =
    if kind == DATA then Data
    else if kind == HEADERS then Headers
    else if kind == PRIORITY then Priority
    else if kind == RST_STREAM then RstStream
    else if kind == SETTINGS then Settings
    else if kind == PUSH_PROMISE then PushPromise
    else if kind == PING then Ping
    else if kind == GOAWAY then Goaway
    else if kind == WINDOW_UPDATE then WindowUpdate
    else if kind == CONTINUATION then Continuation
    else Unknown kind

-- the number of a type
abbrev pub type_number : FrameType → ℕ
type_number Data = DATA
type_number Headers = HEADERS
type_number Priority = PRIORITY
type_number RstStream = RST_STREAM
type_number Settings = SETTINGS
type_number PushPromise = PUSH_PROMISE
type_number Ping = PING
type_number Goaway = GOAWAY
type_number WindowUpdate = WINDOW_UPDATE
type_number Continuation = CONTINUATION
type_number (Unknown kind) = kind

-- the names of the types 0 to 9, by number (6)
abbrev pub type_names : List (List ℕ)
type_names = codes "DATA" ∷ codes "HEADERS" ∷ codes "PRIORITY" ∷ codes "RST_STREAM" ∷ codes "SETTINGS" ∷ codes "PUSH_PROMISE" ∷ codes "PING" ∷ codes "GOAWAY" ∷ codes "WINDOW_UPDATE" ∷ codes "CONTINUATION" ∷ []

-- the number of the type that a text names; the other one where it names none
abbrev pub type_named : List ℕ → Option ℕ → Option ℕ
type_named text other =
    if bytes_eq text (codes "DATA") then Some DATA
    else if bytes_eq text (codes "HEADERS") then Some HEADERS
    else if bytes_eq text (codes "PRIORITY") then Some PRIORITY
    else if bytes_eq text (codes "RST_STREAM") then Some RST_STREAM
    else if bytes_eq text (codes "SETTINGS") then Some SETTINGS
    else if bytes_eq text (codes "PUSH_PROMISE") then Some PUSH_PROMISE
    else if bytes_eq text (codes "PING") then Some PING
    else if bytes_eq text (codes "GOAWAY") then Some GOAWAY
    else if bytes_eq text (codes "WINDOW_UPDATE") then Some WINDOW_UPDATE
    else if bytes_eq text (codes "CONTINUATION") then Some CONTINUATION
    else other

-- the flags, as the bit's value: END_STREAM and ACK are the same bit
abbrev pub END_STREAM : ℕ
END_STREAM = 1

-- of SETTINGS and PING (6.5, 6.7)
abbrev pub ACK : ℕ
ACK = 1

-- of HEADERS and CONTINUATION (6.2, 6.10)
abbrev pub END_HEADERS : ℕ
END_HEADERS = 4

-- of DATA and HEADERS (6.1, 6.2)
abbrev pub PADDED : ℕ
PADDED = 8

-- PRIORITY of HEADERS (6.2)
abbrev pub WITH_PRIORITY : ℕ
WITH_PRIORITY = 32

-- whether a flag is set
abbrev pub has : ℕ → ℕ → Bool
has flags flag = flags / flag % 2 == 1
