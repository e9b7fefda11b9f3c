-- The items of a client's octets: the preface, then frames (RFC 9113, 3.4 and 4.1).
use Rattle.std.specs.Prelude.{ℕ, ◌+◌, nat_eq, nat_le, nat_lt, Bool, true, false, List, length, take, if◌then◌else◌, Option, Some, None, option_map}
use Rattle.std.specs.List.{starts_with}
use Rattle.h2_explain_words.specs.Sent.{FirstFrame, first_frame}
use Rattle.h2_spec.specs.Frames.Frame.{head_at, preface}
use Rattle.h2_spec.specs.declared.frames.Head.{Head}
use Rattle.h2_cmd_dialogue.specs.declared.step.Incoming as code
use Rattle.h2_cmd_dialogue.specs.Steps.{Incoming, Preface, Comes, incoming_of}

-- an item of the code, and how many octets it has
abbrev pub front_seen : code.Incoming × ℕ → Incoming × ℕ
front_seen x = (incoming_of x.0, x.1)

abbrev pub frame_item : FirstFrame → Incoming × ℕ
frame_item f = (Comes f.head f.payload, 9 + length f.payload)

-- the item that octets begin with, and how many octets it has, if they are all there
abbrev pub front_of : (has_preface : Bool) → List ℕ → Option (Incoming × ℕ)
front_of true octets = option_map frame_item (first_frame octets)
front_of false octets = if nat_lt (length octets) 24 then None else Some (Preface, 24)

abbrev pub is_short : Option Head → Bool
is_short (Some h) = nat_le h.length 65536
is_short None = true

-- whether octets can be those of a client: some first octets of the preface, and then a frame that is not too long
abbrev pub is_client : (has_preface : Bool) → List ℕ → Bool
is_client true octets = is_short (head_at octets)
is_client false octets = starts_with nat_eq preface (take 24 octets)
