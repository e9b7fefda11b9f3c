-- Which item of a client a step of a dialogue waits for.
use Rattle.std.specs.Prelude.{ℕ, ◌+◌, ◌-◌, ◌%◌, min, ◌==◌, ◌&&◌, Bool, true, false, List, [], ◌∷◌, if◌then◌else◌, Option, Some, None}
use Rattle.std.specs.Str.{bytes_eq}
use Rattle.std.specs.Int.RustNames.{bit_and}
use Rattle.h2_spec.specs.declared.frames.Head.{Head}
use Rattle.h2_cmd_dialogue.specs.declared.step.Awaited.{Awaited}
use Rattle.h2_cmd_dialogue.specs.declared.step.Awaited.TheVariants as awaited
use Rattle.h2_cmd_dialogue.specs.declared.step.Pattern.{Pattern}
use Rattle.h2_cmd_dialogue.specs.declared.step.Incoming as code
use Rattle.h2_cmd_dialogue.specs.declared.step.Incoming.TheVariants as incoming
use Rattle.h2_cmd_dialogue.specs.declared.step.Means.{Means}
use Rattle.h2_cmd_dialogue.specs.declared.verdict.WantedLine.{WantedLine}

-- a frame of a script, with streams as in the file
pub record ScriptFrame : Type 0 where
  pub head : Head
  pub payload : List ℕ

-- a line `;<`: its number, and the frames that it means
pub record SendsLine : Type 0 where
  pub line : ℕ
  pub means : Means
  pub frame : ScriptFrame

-- a step: the number of its first line, the item that it waits for, whether its frames go out instead of what the server sends,
-- and its lines `;!` and `;<`
pub record Step : Type 0 where
  pub line : ℕ
  pub awaited : Awaited
  pub is_instead : Bool
  pub frames : List ScriptFrame
  pub wanted : List WantedLine
  pub sends : List SendsLine

-- what comes from a client: at the beginning of the connection nothing
pub data Incoming : Type 0 where
  Start : Incoming
  Preface : Incoming
  Comes : (head : Head) → (payload : List ℕ) → Incoming

abbrev pub incoming_of : code.Incoming → Incoming
incoming_of incoming.Start = Start
incoming_of incoming.Preface = Preface
incoming_of (incoming.Frame f) = Comes f.head f.payload.now

-- the octets of the PING that follows the frames of a step, `h2_bench`
abbrev pub probe : List ℕ
probe = 104 ∷ 50 ∷ 95 ∷ 98 ∷ 101 ∷ 110 ∷ 99 ∷ 104 ∷ []

-- a stream of the script, where the client's first request has the number base + 1: odd ones count from that
abbrev pub based : (base stream : ℕ) → ℕ
based base stream = if stream % 2 == 1 then min (stream + base) 4294967295 else stream

-- a frame of this type, with at least these flags, on this stream
abbrev pub fits : (base : ℕ) → Pattern → Head → Bool
fits base p h = (h.kind == p.kind) && ((h.stream == based base p.stream) && (bit_and h.flags p.flags == p.flags))

-- a frame answers the PING of a step: PING with ACK on stream 0 (RFC 9113, 6.7)
abbrev pub is_pong : Head → List ℕ → Bool
is_pong h payload = (h.kind == 6) && ((h.flags == 1) && ((h.stream == 0) && bytes_eq payload probe))

abbrev pub names_frame : (base : ℕ) → Awaited → Head → List ℕ → Bool
names_frame base awaited.Start h payload = false
names_frame base awaited.Pong h payload = is_pong h payload
names_frame base (awaited.Frame p) h payload = fits base p h

abbrev pub is_start : Awaited → Bool
is_start awaited.Start = true
is_start awaited.Pong = false
is_start (awaited.Frame p) = false

-- whether this is the item that a step waits for
abbrev pub names : (base : ℕ) → Awaited → Incoming → Bool
names base a Start = is_start a
names base a Preface = false
names base a (Comes h payload) = names_frame base a h payload

abbrev pub request_of : Incoming → Option ℕ
request_of Start = None
request_of Preface = None
request_of (Comes h payload) = if h.kind == 1 then Some (h.stream - 1) else None

-- one less than the stream of the first request, which is the first HEADERS
abbrev pub with_request : Option ℕ → Incoming → Option ℕ
with_request (Some base) item = Some base
with_request None item = request_of item
