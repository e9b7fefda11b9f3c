-- What the SETTINGS that go to a client let it do, and what it does against that (RFC 9113, 6.5.2 and 6.5.3).
use Rattle.std.specs.Prelude.{ℕ, zero, suc, ◌-◌, ◌%◌, max, ◌==◌, ◌&&◌, ◌||◌, not, nat_le, nat_lt, Bool, List, [], ◌∷◌, ◌++◌, length, if◌then◌else◌, Option, Some, None}
use Rattle.std.specs.List.{position, remove}
use Rattle.h2_explain_words.specs.Sent.{FirstFrame, first_frame}
use Rattle.h2_spec.specs.declared.frames.Head.{Head}
use Rattle.h2_spec.specs.Frames.FrameType.{has}
use Rattle.h2_spec.specs.Frames.Payload.{setting_pairs}
use Rattle.h2_cmd_dialogue.specs.Steps.{is_pong}
use Rattle.h2_cmd_dialogue.specs.declared.limits.Grant.{Grant}
use Rattle.h2_cmd_dialogue.specs.declared.limits.LimitFault.{LimitFault}
use Rattle.h2_cmd_dialogue.specs.declared.limits.LimitFault.TheVariants.{NoSettings, LongFrame, ManyStreams}

-- the SETTINGS that the client has not acknowledged, its limits, its live streams, those whose request has no whole answer, the
-- highest, how many SETTINGS it had since before its last answer to a PING of a step, and the first thing against its limits
pub record Limits : Type 0 where
  pub waiting : List Grant
  pub frame : ℕ
  pub streams : Option ℕ
  pub live : List ℕ
  pub unanswered : List ℕ
  pub highest : ℕ
  pub late : ℕ
  pub fault : Option LimitFault

abbrev pub new_limits : Limits
new_limits = record { waiting = []; frame = 16384; streams = None; live = []; unanswered = []; highest = 0; late = 0; fault = None }

-- ---- what goes to the client

-- a value, or that of a pair of this identifier
abbrev pub with_first : (id : ℕ) → Option ℕ → ℕ × ℕ → Option ℕ
with_first id value pair = if pair.0 == id then Some pair.1 else value

-- the last value of a setting
abbrev pub value_of : (id : ℕ) → Option ℕ → List (ℕ × ℕ) → Option ℕ
value_of id value [] = value
value_of id value (pair ∷ pairs) = value_of id (with_first id value pair) pairs

abbrev pub grant_of : List (ℕ × ℕ) → Grant
grant_of pairs = record { streams = value_of 3 None pairs; frame = value_of 5 None pairs }

-- SETTINGS on stream 0, without ACK, of whole settings
abbrev pub grant_in : Head → List ℕ → Option Grant
grant_in h payload =
    if not (h.kind == 4) || (has h.flags 1 || not (h.stream == 0)) then None
    else if length payload % 6 == 0 then Some (grant_of (setting_pairs payload)) else None

abbrev pub without_at : List ℕ → Option ℕ → List ℕ
without_at list None = list
without_at list (Some place) = remove list place

abbrev pub without : ℕ → List ℕ → List ℕ
without n list = without_at list (position (λ k. k == n) list)

-- a frame that ends its stream on the sender's side (5.1)
abbrev pub is_end : Head → Bool
is_end h = if (h.kind == 0) || (h.kind == 1) then has h.flags 1 else h.kind == 3

abbrev pub ended_by : Head → Limits → Limits
ended_by h l = if is_end h then record l { live = without h.stream l.live; unanswered = without h.stream l.unanswered } else l

abbrev pub with_grant : Limits → Option Grant → Limits
with_grant l None = l
with_grant l (Some grant) = record l { waiting = l.waiting ++ grant ∷ [] }

-- a frame went to the client
abbrev pub sent : Limits → Head → List ℕ → Limits
sent l h payload = with_grant (ended_by h l) (grant_in h payload)

abbrev pub sent_first : Limits → Option FirstFrame → (Limits → List ℕ → Limits) → Limits
sent_first l None follow = l
sent_first l (Some f) follow = follow (sent l f.head f.payload) f.rest

-- at most this many frames went to the client
abbrev pub sent_frames : ℕ → Limits → List ℕ → Limits
sent_frames zero l octets = l
sent_frames (suc more) l octets = sent_first l (first_frame octets) (sent_frames more)

-- ---- what the client sends

abbrev pub first_fault : Option LimitFault → LimitFault → Option LimitFault
first_fault (Some before) fault = Some before
first_fault None fault = Some fault

abbrev pub noted : Limits → LimitFault → Limits
noted l fault = record l { fault = first_fault l.fault fault }

abbrev pub higher : ℕ → Option ℕ → ℕ
higher limit (Some given) = max limit given
higher limit None = limit

-- a value that is not acknowledged may be in force where it allows more
abbrev pub most_frame : ℕ → List Grant → ℕ
most_frame most [] = most
most_frame most (g ∷ gs) = most_frame (higher most g.frame) gs

abbrev pub most_streams : ℕ → List Grant → ℕ
most_streams most [] = most
most_streams most (g ∷ gs) = most_streams (higher most g.streams) gs

abbrev pub with_length : Limits → Head → Limits
with_length l h =
    if nat_lt (most_frame l.frame l.waiting) h.length then noted l (LongFrame h.kind h.length (most_frame l.frame l.waiting)) else l

abbrev pub or_value : ℕ → Option ℕ → ℕ
or_value before (Some given) = given
or_value before None = before

abbrev pub or_limit : Option ℕ → Option ℕ → Option ℕ
or_limit before (Some given) = Some given
or_limit before None = before

-- the first SETTINGS that wait are acknowledged
abbrev pub acknowledged : Limits → List Grant → Limits
acknowledged l [] = noted l NoSettings
acknowledged l (g ∷ gs) = record l { waiting = gs; late = l.late - 1; frame = or_value l.frame g.frame; streams = or_limit l.streams g.streams }

abbrev pub with_control : Limits → Head → List ℕ → Limits
with_control l h payload =
    if (h.kind == 4) && has h.flags 1 then acknowledged l l.waiting
    else if h.kind == 3 then record l { live = without h.stream l.live }
    else if is_pong h payload then record l { late = length l.waiting }
    else l

abbrev pub counted : Limits → ℕ → Option ℕ → Limits
counted l stream None = l
counted l stream (Some streams) =
    if nat_le (most_streams streams l.waiting) (length l.live) then noted l (ManyStreams stream (most_streams streams l.waiting)) else l

abbrev pub with_stream : Limits → ℕ → Limits
with_stream l stream = record l { highest = stream; live = l.live ++ stream ∷ []; unanswered = l.unanswered ++ stream ∷ [] }

-- a stream is opened: by HEADERS above all others (5.1.1)
abbrev pub opened : Limits → ℕ → Limits
opened l stream = with_stream (counted l stream l.streams) stream

abbrev pub opened_if : Limits → Head → Limits
opened_if l h = if (h.kind == 1) && nat_lt l.highest h.stream then opened l h.stream else l

-- a frame of the client came
abbrev pub came : Limits → Head → List ℕ → Limits
came l h payload = opened_if (with_control (with_length l h) h payload) h
