-- The items of octets, as a connection takes them: what a judge has to know of each, and what this server does beside it.
use Rattle.std.specs.Prelude.{◌≡◌, ℕ, ◌+◌, ◌-◌, ◌^◌, min, Bool, true, false, ◌&&◌, not, is_some, List, [], ◌∷◌, ◌++◌, length, drop, Option, Some, None}
use Rattle.h2_conn.specs.Connection.{Connection}
use Rattle.h2_explain_item.specs.Item.{frame_in, head_in, part_in}
use Rattle.h2_explain_item.specs.declared.item.Explained.{Explained}
use Rattle.h2_explain_step.specs.Explained.{ExplainsItem}
use Rattle.h2_spec.specs.Frames.FrameType.{ACK, END_STREAM, frame_type, has}
use Rattle.h2_spec.specs.Frames.Parse.{Stop}
use Rattle.h2_spec.specs.Frames.Payload.{Part, OfData, OfHeaders, OfPriority, OfRstStream, OfSettings, OfSettingsAck, OfPushPromise, OfPing, OfGoaway, OfWindowUpdate, OfContinuation, OfUnknown}
use Rattle.h2_spec.specs.State.{State}
use Rattle.h2_spec.specs.Stream.{is_live}
use Rattle.h2_spec.specs.Trace.{next_event}
use Rattle.h2_spec.specs.declared.causes.Cause.{Cause}
use Rattle.h2_spec.specs.declared.frames.FrameType.{FrameType}
use Rattle.h2_spec.specs.declared.frames.FrameType.TheVariants as kind
use Rattle.h2_spec.specs.declared.frames.Head.{Head}
use Rattle.h2_spec.specs.declared.rules.Row.{Row}
use Rattle.h2_cmd_judge.specs.ServerFrames.{Progress, ServerFrames, read_on, unread_frames}
use Rattle.h2_cmd_judge.specs.declared.event.Seen.{Seen}
use Rattle.h2_cmd_items.specs.Rules.{IsRowOf}
use Rattle.h2_cmd_items.specs.declared.items.Taking.{Taking}
use Rattle.h2_cmd_items.specs.declared.sent.Sent.{Sent}

-- ---- an item

-- numbers of 32 bits, which end at the greatest
abbrev pub narrow : ℕ → ℕ
narrow n = min n 4294967295

-- sums of 64 bits
abbrev pub plus : ℕ → ℕ → ℕ
plus a b = min (a + b) (2 ^ 64 - 1)

abbrev pub is_data_type : FrameType → Bool
is_data_type kind.Data = true
is_data_type _ = false

abbrev pub is_settings_type : FrameType → Bool
is_settings_type kind.Settings = true
is_settings_type _ = false

abbrev pub is_reset_type : FrameType → Bool
is_reset_type kind.RstStream = true
is_reset_type _ = false

-- frames of a type may end the client's side of a stream (RFC 9113, 6.1 and 6.2)
abbrev pub may_end : FrameType → Bool
may_end kind.Data = true
may_end kind.Headers = true
may_end _ = false

abbrev pub stream_in : Option Head → ℕ
stream_in (Some h) = h.stream
stream_in None = 0

abbrev pub length_in : Option Head → ℕ
length_in (Some h) = h.length
length_in None = 0

abbrev pub is_data_head : Option Head → Bool
is_data_head (Some h) = is_data_type (frame_type h.kind)
is_data_head None = false

abbrev pub is_reset_head : Option Head → Bool
is_reset_head (Some h) = is_reset_type (frame_type h.kind)
is_reset_head None = false

-- a frame with this head ends the client's side of its stream
abbrev pub ends_stream : Option Head → Bool
ends_stream (Some h) = may_end (frame_type h.kind) && has h.flags END_STREAM
ends_stream None = false

-- a frame with this head is SETTINGS that has to be acknowledged, unless it is an error (6.5.3)
abbrev pub is_due_settings : Option Head → Bool
is_due_settings (Some h) = is_settings_type (frame_type h.kind) && not (has h.flags ACK)
is_due_settings None = false

-- by how much a payload raises a window (6.9)
abbrev pub increment_in : Option Part → ℕ
increment_in (Some (OfWindowUpdate octets)) = octets
increment_in _ = 0

abbrev pub increment_for : Option Cause → ℕ → ℕ
increment_for (Some cause) increment = 0
increment_for None increment = increment

-- the octets of a payload that is PING's
abbrev pub ping_in : Option Part → Option (List ℕ)
ping_in (Some (OfPing octets)) = Some octets
ping_in _ = None

abbrev pub ping_for : Option Cause → Option (List ℕ) → Option (List ℕ)
ping_for (Some cause) ping = None
ping_for None ping = ping

-- what a judge has to know of an item that has this rule, and whose block began with the item of this number
abbrev pub sent_of : Explained → (low : ℕ) → Row → (is_left has_protocol : Bool) → Sent
sent_of x low row is_left has_protocol = record {
  number = narrow x.number;
  low = low;
  end = plus x.offset x.used;
  stream = stream_in (head_in x.what);
  length = length_in (head_in x.what);
  is_data = is_data_head (head_in x.what);
  ends = ends_stream (head_in x.what);
  resets = is_reset_head (head_in x.what) && not (is_some x.cause);
  is_begun = is_live x.before.stream.kind;
  window = x.after.counts.peer.window;
  increment = increment_for x.cause (increment_in (part_in (frame_in x.what x.octets.now)));
  has_goaway = is_some x.after.counts.goaway;
  is_acknowledged = x.after.counts.acked;
  is_settings = is_due_settings (head_in x.what) && not (is_some x.cause);
  ping = ping_for x.cause (ping_in (part_in (frame_in x.what x.octets.now)));
  opens = is_some x.after.block;
  cause = x.cause;
  row = row;
  is_left = is_left;
  has_protocol = has_protocol;
}

-- it is that of the item: its row is one of its rule; what else the RFC leaves, and its fields, no definition says
abbrev pub IsSentOf : Explained → (low : ℕ) → Sent → Type 0
IsSentOf x low s = IsRowOf x s.row × (s ≡ sent_of x low s.row s.is_left s.has_protocol)

-- ---- the items

-- how far items are taken: whether a block is open, the number of its first item, and how far what this server sends is read
pub record Along : Type 0 where
  pub opens : Bool
  pub low : ℕ
  pub frames : ServerFrames
  pub own : List Seen

-- the number of the first item of a block
abbrev pub low_if : Bool → (low number : ℕ) → ℕ
low_if true low number = low
low_if false low number = number

abbrev pub low_with : Along → (number : ℕ) → ℕ
low_with a number = low_if a.opens a.low number

-- after an item, for which these octets were sent
abbrev pub along_with : Progress → Sent → Along
along_with p s = record { opens = s.opens; low = s.low; frames = p.frames; own = p.events }

abbrev pub along_after : Along → Sent → List ℕ → Along
along_after a s octets = along_with (read_on s.number a.frames a.own octets) s

-- the items that a connection takes of octets, each as a judge has to know it; that many items came before them, and that many
-- octets
abbrev pub AreSent : State → List ℕ → (items offset : ℕ) → Along → List Sent → Along → Type 0
AreSent s b items offset a [] a' = (next_event s b ≡ Stop) × (a' ≡ a)
AreSent s b items offset a (x ∷ xs) a' =
    (c : Connection) × (e : Explained) × ExplainsItem s b (items + 1) offset c e × IsSentOf e (low_with a (narrow e.number)) x
    × AreSent c.state (drop e.used b) (items + 1) (offset + e.used) (along_after a x e.sent.now) xs a'

-- ---- as they are taken

-- how far a value has taken items
abbrev pub along_of : Taking → Along
along_of t = record { opens = t.opens; low = t.low; frames = t.frames; own = t.own.items }

-- no item yet
abbrev pub no_item : Along
no_item = record { opens = false; low = 0; frames = unread_frames; own = [] }

-- an item was put last, for which these octets were sent
abbrev pub AddsSent : List Sent → Along → Sent → List ℕ → List Sent → Along → Type 0
AddsSent ss a s octets ss' a' = (ss' ≡ ss ++ s ∷ []) × (a' ≡ along_after a s octets)

-- the next item of octets was taken, and put last
pub record TakesOneSent (s : State) (b : List ℕ) (offset : ℕ) (ss : List Sent) (a : Along) (c : Connection) (ss' : List Sent) (a' : Along) (used : ℕ) : Type 0 where
  pub item : Explained
  pub explains : ExplainsItem s b (length ss + 1) offset c item
  pub used_is : used ≡ item.used
  pub sent : Sent
  pub is_sent : IsSentOf item (low_with a (narrow item.number)) sent
  pub adds : AddsSent ss a sent item.sent.now ss' a'

-- or there is none
abbrev pub TakesSent : State → List ℕ → (offset : ℕ) → List Sent → Along → Connection → List Sent → Along → Option ℕ → Type 0
TakesSent s b offset ss a c ss' a' None = (next_event s b ≡ Stop) × (ss' ≡ ss) × (a' ≡ a)
TakesSent s b offset ss a c ss' a' (Some used) = TakesOneSent s b offset ss a c ss' a' used

-- the items of octets, and what this server does beside them
abbrev pub AreItems : State → List ℕ → List Sent → (own : List Seen) → (opens : Bool) → Type 0
AreItems s b items own opens = (a : Along) × AreSent s b 0 0 no_item items a × (a.own ≡ own) × (a.opens ≡ opens)
