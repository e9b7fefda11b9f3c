-- What an item is, read from its head and its octets.
use Rattle.std.specs.Prelude.{ℕ, List, drop, Option, Some, None, Result, Ok, Err}
use Rattle.h2_spec.specs.Frames.Payload.{Part, part_of}
use Rattle.h2_spec.specs.declared.causes.Cause.{Cause}
use Rattle.h2_spec.specs.declared.frames.Head.{Head}
use Rattle.h2_spec.specs.declared.frames.ItemHead.{ItemHead}
use Rattle.h2_spec.specs.declared.frames.ItemHead.TheVariants as head
use Rattle.h2_frame.specs.declared.head.FrameRef.{FrameRef}

-- the head of the frame that an item is, if it is one
abbrev pub head_in : ItemHead → Option Head
head_in head.Preface = None
head_in head.BadPreface = None
head_in (head.Oversize h) = Some h
head_in (head.Frame h) = Some h

-- the octets after the nine of a head (4.1)
abbrev pub payload_in : List ℕ → List ℕ
payload_in b = drop 9 b

-- the head and the payload of the whole frame that an item is, if it is one
abbrev pub frame_in : ItemHead → List ℕ → Option (Head × List ℕ)
frame_in head.Preface b = None
frame_in head.BadPreface b = None
frame_in (head.Oversize h) b = None
frame_in (head.Frame h) b = Some (h, payload_in b)

-- a frame with its payload as a list
abbrev pub frame_seen : FrameRef → Head × List ℕ
frame_seen f = (f.head, f.payload.now)

-- a part, where the payload can be read
abbrev pub readable : Result Part Cause → Option Part
readable (Ok part) = Some part
readable (Err cause) = None

-- what the payload of a whole frame holds, if it can be read (6)
abbrev pub part_in : Option (Head × List ℕ) → Option Part
part_in None = None
part_in (Some frame) = readable (part_of frame.0 frame.1)
