-- A frame that was made for stream 0, on another stream.
use Rattle.std.specs.Prelude.{◌≡◌, ℕ, true, List, ◌++◌, take, drop}
use Rattle.h2_spec.specs.Frames.Frame.{frame_octets}
use Rattle.h2_spec.specs.Octets.{big_endian}
use Rattle.h2_spec.specs.SendPending.{piece}

-- the octets of a frame with this stream identifier, the last four of the nine of its head (RFC 9113, 4.1)
abbrev pub on_stream : ℕ → List ℕ → List ℕ
on_stream id frame = take 5 frame ++ big_endian 4 id ++ drop 9 frame

-- the payload in the octets of a frame, after the nine of its head
abbrev pub content : List ℕ → List ℕ
content frame = drop 9 frame

-- octets that are a DATA that was made for stream 0 and ends it
abbrev pub IsData : List ℕ → Type 0
IsData frame = frame ≡ frame_octets (piece 0 true (content frame))
