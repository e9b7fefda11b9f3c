-- The frame at the front of octets (RFC 9113, 4.1).
use Rattle.std.specs.Prelude.{ℕ, ◌+◌, List, length, take, drop, nat_lt, if◌then◌else◌, Option, Some, None}
use Rattle.std.specs.Borrow.{Bor}
use Rattle.h2_frame.specs.declared.head.FrameRef.{FrameRef}
use Rattle.h2_spec.specs.Frames.Frame.{head_at}
use Rattle.h2_spec.specs.declared.frames.Head.{Head}

-- a frame, and the octets after it
pub record FirstFrame : Type 0 where
  pub head : Head
  pub payload : List ℕ
  pub rest : List ℕ

-- the frame of a head, if the whole payload follows
abbrev pub frame_with : Option Head → List ℕ → Option FirstFrame
frame_with None b = None
frame_with (Some h) b =
    if nat_lt (length b) (9 + h.length) then None else Some (record { head = h; payload = take h.length (drop 9 b); rest = drop (9 + h.length) b })

-- the frame at the front of octets, if all its octets are there: the nine of its head, and as many as that says
abbrev pub first_frame : List ℕ → Option FirstFrame
first_frame b = frame_with (head_at b) b

-- a frame of the code and the octets after it
abbrev pub first_seen : FrameRef × Bor (List ℕ) → FirstFrame
first_seen f = record { head = f.0.head; payload = f.0.payload.now; rest = f.1.now }
