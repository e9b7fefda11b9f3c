-- Frames, their octets, and the items that octets begin with (RFC 9113, 3.4, 4.1 and 4.2).
use Rattle.std.specs.Prelude.{ℕ, ◌+◌, ◌^◌, ◌<◌, Bool, true, false, List, [], ◌∷◌, ◌++◌, length, slice_range, slice_index, nat_lt, nat_le, nat_eq, ◌==◌, if◌then◌else◌, codes, Option, Some, None, flat_map}
use Rattle.std.specs.List.{common_prefix_len}
use Rattle.h2_spec.specs.Octets.{three_octets, low_31_bits, big_endian}
use Rattle.h2_spec.specs.declared.frames.Head.{Head}

-- a frame that is sent; its length is its payload's, and its reserved bit is 0
pub record Frame : Type 0 where
  pub kind : ℕ
  pub flags : ℕ
  pub stream : ℕ
  pub payload : List ℕ

-- the frame of a type's number, flags, a stream and a payload
abbrev pub frame : ℕ → ℕ → ℕ → List ℕ → Frame
frame kind flags stream payload = record { kind = kind; flags = flags; stream = stream; payload = payload }

-- the frame that is sent with this head and payload
abbrev pub frame_of : Head → List ℕ → Frame
frame_of h p = frame h.kind h.flags h.stream p

-- a frame whose length and stream a head can write: 24 and 31 bits (4.1)
pub record IsSendable (f : Frame) : Type 0 where
  pub length_fits : length f.payload < 2 ^ 24
  pub stream_fits : f.stream < 2 ^ 31

-- the head that is written for a frame: the length is its payload's, and the reserved bit is 0
abbrev pub head_sent : Frame → Head
head_sent f = record { length = length f.payload; kind = f.kind; flags = f.flags; reserved = false; stream = f.stream }

-- the head that nine octets spell
unfoldable pub head_of : List ℕ → Head
head_of b = record {
  length = three_octets b 0;
  kind = slice_index b 3;
  flags = slice_index b 4;
  reserved = nat_le 128 (slice_index b 5);
  stream = low_31_bits b 5;
}

-- the head in the first nine octets, if they are there
unfoldable pub head_at : List ℕ → Option Head
unfolding head_of
head_at b = if nat_lt (length b) 9 then None else Some (head_of b)

-- the octets of a frame
unfoldable pub frame_octets : Frame → List ℕ
frame_octets f = big_endian 3 (length f.payload) ++ f.kind ∷ f.flags ∷ big_endian 4 f.stream ++ f.payload

-- the octets of frames in a row
abbrev pub frames_octets : List Frame → List ℕ
frames_octets fs = flat_map frame_octets fs

-- the client's connection preface (3.4)
unfoldable pub preface : List ℕ
preface = codes "PRI * HTTP/2.0" ++ 13 ∷ 10 ∷ 13 ∷ 10 ∷ 83 ∷ 77 ∷ 13 ∷ 10 ∷ 13 ∷ 10 ∷ []

-- one step of the input
pub data Item : Type 0 where
  Preface : Item
  BadPreface : Item
  WholeFrame : Head → List ℕ → Item
  Oversize : Head → Item

-- the item that octets begin with and how many octets it uses, if there is one
pub data Next : Type 0 where
  NoItem : Next
  Got : Item → ℕ → Next

-- the preface, given how many octets agree with it
abbrev pub preface_item : ℕ → List ℕ → Next
preface_item same b = if same == 24 then Got Preface 24 else if nat_lt same (length b) then Got BadPreface (same + 1) else NoItem

-- the frame, given its head
abbrev pub frame_item : ℕ → Head → List ℕ → Next
frame_item limit h b =
    if nat_lt limit h.length then Got (Oversize h) 9
    else if nat_lt (length b) (9 + h.length) then NoItem else Got (WholeFrame h (slice_range b 9 (9 + h.length))) (9 + h.length)

-- the next item, where the preface is expected or not, with the limit of a frame's length
unfoldable pub next : Bool → ℕ → List ℕ → Next
unfolding preface head_of
next true limit b = preface_item (common_prefix_len nat_eq b preface) b
next false limit b = if nat_lt (length b) 9 then NoItem else frame_item limit (head_of b) b
