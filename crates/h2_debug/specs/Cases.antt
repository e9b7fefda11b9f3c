-- Which special case the rule of an item of a run is (RFC 9113, 5.4): by the item, by the state before it, and by the items
-- before it: whether the last one is CONTINUATION, the octets of its field block, and how the client's side of its stream ended.
use Rattle.std.specs.Prelude.{ℕ, zero, suc, ◌++◌, ◌==◌, Bool, true, false, ◌&&◌, ◌||◌, not, List, [], ◌∷◌, Option, Some, None, Result, Ok, Err}
use Rattle.h2_spec.specs.declared.causes.Cause.{Cause}
use Rattle.h2_spec.specs.declared.connection.BlockView.{BlockView}
use Rattle.h2_spec.specs.declared.frames.Head.{Head}
use Rattle.h2_spec.specs.declared.ignored.Ignored.{Ignored}
use Rattle.h2_spec.specs.declared.special_cases.SpecialCase.{SpecialCase}
use Rattle.h2_spec.specs.declared.streams.StreamState.{StreamState}
use Rattle.h2_spec.specs.declared.streams.StreamState.TheVariants.{Idle, Skipped, BothOpen, HalfRemote, HalfLocal, Ended, PeerReset, WeReset}
use Rattle.h2_spec.specs.Frames.Frame.{Item, Preface, BadPreface, WholeFrame, Oversize, Next, NoItem, Got}
use Rattle.h2_spec.specs.Frames.FrameType.{CONTINUATION, DATA, END_STREAM, HEADERS, has}
use Rattle.h2_spec.specs.Frames.Payload.{Part, OfData, OfHeaders, OfPriority, OfRstStream, OfSettings, OfSettingsAck, OfPushPromise, OfPing, OfGoaway, OfWindowUpdate, OfContinuation, OfUnknown, part_of}
use Rattle.h2_spec.specs.Hpack.Field.{Field}
use Rattle.h2_spec.specs.declared.connection.Purpose.{Purpose}
use Rattle.h2_spec.specs.ReactionTable.{Cell, run_cell}
use Rattle.h2_spec.specs.State.{State}
use Rattle.h2_spec.specs.Stream.{stream_at}
use Rattle.h2_spec.specs.Texts.View.{shown_block}
use Rattle.h2_spec.specs.Trace.{Event}
use Rattle.h2_conn.specs.Shown.{item_fields}
use Rattle.h2_explain_item.specs.CaseFacts.{facts_by}
use Rattle.h2_explain_item.specs.FieldFacts.{field_facts}
use Rattle.h2_explain_item.specs.declared.diagnosis.field_facts.FieldFacts.{FieldFacts}
use Rattle.h2_explain_item.specs.Item.{readable}
use Rattle.h2_explain_item.specs.Notes.{has_client_ended}
use Rattle.h2_explain_item.specs.Special.{case_by, has_cases, has_reason_cases, seen_by}
use Rattle.h2_explain_item.specs.declared.diagnosis.special.CaseFacts.{CaseFacts}
use Rattle.h2_explain_item.specs.declared.diagnosis.special.Seen.{Seen}
use Rattle.h2_debug.specs.Items.{head_of_item}
use Rattle.h2_debug.specs.Places.{Source, at, cause_at, events, ignored_at}

-- ---- items

-- the item at a place of a list, from 0
abbrev pub item_in : List Event → ℕ → Option Item
item_in [] place = None
item_in (e ∷ events) zero = Some e.item
item_in (e ∷ events) (suc place) = item_in events place

-- the item after a position
abbrev pub item_after : Source → ℕ → Option Item
item_after r p = item_in (events r) p

abbrev pub head_in : Option Item → Option Head
head_in None = None
head_in (Some item) = head_of_item item

-- the head of its frame
abbrev pub head_after : Source → ℕ → Option Head
head_after r p = head_in (item_after r p)

-- whether a frame is CONTINUATION (6.10)
abbrev pub is_continuation : Option Head → Bool
is_continuation None = false
is_continuation (Some h) = h.kind == CONTINUATION

-- whether the item that leads to a position is one
abbrev pub is_continued : Source → ℕ → Bool
is_continued r zero = false
is_continued r (suc p) = is_continuation (head_after r p)

-- the stream of a frame, 0 of no frame
abbrev pub stream_in : Option Head → ℕ
stream_in None = 0
stream_in (Some h) = h.stream

-- what the payload of an item holds, if it is a whole frame whose payload can be read
abbrev pub part_in : Item → Option Part
part_in Preface = None
part_in BadPreface = None
part_in (Oversize h) = None
part_in (WholeFrame h p) = readable (part_of h p)

-- the octets that a payload has of a field block
abbrev pub fragment_in : Option Part → List ℕ
fragment_in None = []
fragment_in (Some (OfData part)) = []
fragment_in (Some (OfHeaders part)) = part.fragment
fragment_in (Some OfPriority) = []
fragment_in (Some (OfRstStream error)) = []
fragment_in (Some (OfSettings pairs)) = []
fragment_in (Some OfSettingsAck) = []
fragment_in (Some OfPushPromise) = []
fragment_in (Some (OfPing octets)) = []
fragment_in (Some (OfGoaway last error)) = []
fragment_in (Some (OfWindowUpdate increment)) = []
fragment_in (Some (OfContinuation fragment)) = fragment
fragment_in (Some OfUnknown) = []

-- the fields that an item shows, none where it is of no block
abbrev pub fields_or_none : Option (List Field) → List Field
fields_or_none None = []
fields_or_none (Some fields) = fields

-- the octets of the field block that the item which leads to a position goes on with, from its HEADERS on
abbrev pub open_octets : Option BlockView → List ℕ → List ℕ
open_octets None octets = []
open_octets (Some b) octets = octets

abbrev pub fragment_of : Option Item → List ℕ
fragment_of None = []
fragment_of (Some item) = fragment_in (part_in item)

abbrev pub fragment_of_next : Next → List ℕ
fragment_of_next NoItem = []
fragment_of_next (Got item used) = fragment_in (part_in item)

abbrev pub block_octets : Source → ℕ → List ℕ
block_octets r zero = []
block_octets r (suc p) = open_octets (shown_block (at r p).block) (block_octets r p) ++ fragment_of (item_after r p)

-- the stream of the block that is shown
abbrev pub shown_stream : Option BlockView → Option ℕ
shown_stream None = None
shown_stream (Some b) = Some b.stream

-- ---- the end of the client's side of a stream

-- whether a frame has END_STREAM, or the HEADERS of the block that it continues (6.1, 6.2)
abbrev pub ends_side : Option BlockView → Option Head → Bool
ends_side (Some b) head = b.ends
ends_side None None = false
ends_side None (Some h) = (h.kind == DATA || h.kind == HEADERS) && has h.flags END_STREAM

-- whether the server has reset a stream (5.1)
abbrev pub is_reset : StreamState → Bool
is_reset Idle = false
is_reset Skipped = false
is_reset BothOpen = false
is_reset HalfRemote = false
is_reset HalfLocal = false
is_reset Ended = false
is_reset PeerReset = false
is_reset WeReset = true

-- whether the client has ended its side of a stream at an item, by the stream's state before and after it: with the item at
-- which the server reset it, or before
abbrev pub leaves_ended : StreamState → StreamState → (ends : Bool) → Bool
leaves_ended before after ends = has_client_ended after || (not (is_reset before) && is_reset after && ends)

-- the state of a stream at a position
abbrev pub kind_at : Source → ℕ → ℕ → StreamState
kind_at r id p = (stream_at (at r p).core.last (at r p).streams id).kind

-- whether it has at one of the items up to a position
abbrev pub is_ended_by : Source → ℕ → ℕ → Bool
is_ended_by r id zero = false
is_ended_by r id (suc p) = is_ended_by r id p || leaves_ended (kind_at r id p) (kind_at r id (suc p)) (ends_side (shown_block (at r p).block) (head_after r p))

-- whether HEADERS open a block, by their cell of the table
abbrev pub opens : Cell Purpose → Bool
opens cell = run_cell (λ cause. false) (λ reason. false) (λ purpose. true) cell

-- whether a payload shows fields of its block: HEADERS where they open one, CONTINUATION where one is open
abbrev pub shows_by : (opens is_open : Bool) → Result Part Cause → Bool
shows_by opens is_open (Err cause) = false
shows_by opens is_open (Ok (OfData part)) = false
shows_by opens is_open (Ok (OfHeaders part)) = opens
shows_by opens is_open (Ok OfPriority) = false
shows_by opens is_open (Ok (OfRstStream error)) = false
shows_by opens is_open (Ok (OfSettings pairs)) = false
shows_by opens is_open (Ok OfSettingsAck) = false
shows_by opens is_open (Ok OfPushPromise) = false
shows_by opens is_open (Ok (OfPing octets)) = false
shows_by opens is_open (Ok (OfGoaway last error)) = false
shows_by opens is_open (Ok (OfWindowUpdate increment)) = false
shows_by opens is_open (Ok (OfContinuation fragment)) = is_open
shows_by opens is_open (Ok OfUnknown) = false

-- ---- the special case

-- what an item shows of it in a state
abbrev pub seen_in : State → Option Head → Seen
seen_in s head = seen_by head (stream_at s.core.last s.streams (stream_in head)) s.core.acked

-- what else decides it
abbrev pub facts_in : (continued : Bool) → State → Item → (octets : List ℕ) → (after_end : Bool) → CaseFacts
facts_in continued s item octets after_end = facts_by continued (part_in item) (field_facts (fields_or_none (item_fields s item))) octets after_end

-- the special case of the item after a position, if it is one
abbrev pub case_after : Source → ℕ → Option Item → Option Cause → Option Ignored → Option SpecialCase
case_after r p None cause ignored = None
case_after r p (Some item) cause ignored =
    case_by cause ignored (seen_in (at r p) (head_of_item item)) (facts_in (is_continued r p) (at r p) item (block_octets r (suc p)) (is_ended_by r (stream_in (head_of_item item)) p))

-- that of the item that leads to a position; none at 0
abbrev pub case_at : Source → ℕ → Option SpecialCase
case_at r zero = None
case_at r (suc p) = case_after r p (item_after r p) (cause_at r (suc p)) (ignored_at r (suc p))

-- whether an error with this cause, or a frame that is ignored for this reason, can be a special case
abbrev pub can_be_special : Option Cause → Option Ignored → Bool
can_be_special (Some cause) ignored = has_cases cause
can_be_special None (Some reason) = has_reason_cases reason
can_be_special None None = false
