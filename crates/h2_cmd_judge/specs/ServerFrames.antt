-- The events of the octets that a server sends: its frames one after another, with the fields of its answers (RFC 9113, 4,
-- 6 and 8.1).
use Rattle.std.specs.Prelude.{ℕ, zero, suc, ◌+◌, ◌*◌, ◌-◌, ◌&&◌, Bool, false, List, [], ◌∷◌, ◌++◌, codes, length, nat_le, nat_lt, not, ◌==◌, if◌then◌else◌, Option, Some, None, Result, Ok, Err}
use Rattle.std.specs.Bool.{then_some}
use Rattle.std.specs.Str.{bytes_eq}
use Rattle.h2_spec.specs.Frames.FrameType.{ACK, END_HEADERS, END_STREAM, has}
use Rattle.h2_spec.specs.Frames.Payload.{Part, part_of, OfData, OfHeaders, OfPriority, OfRstStream, OfSettings, OfSettingsAck, OfPushPromise, OfPing, OfGoaway, OfWindowUpdate, OfContinuation, OfUnknown}
use Rattle.h2_spec.specs.declared.causes.Cause.{Cause}
use Rattle.h2_spec.specs.declared.frames.Head.{Head}
use Rattle.h2_explain_words.specs.Sent.{FirstFrame, first_frame}
use Rattle.h2_spec.specs.Hpack.Block.{Decoded, FieldsSoFar, Integer, Outcome, Unfinished, Faulty, carried_on, list_size, progress_with, start}
use Rattle.h2_spec.specs.Hpack.DynamicTable.{Table}
use Rattle.h2_spec.specs.Hpack.Field.{Field}
use Rattle.h2_fields.specs.Blocks.{outcome_of}
use Rattle.h2_hpack_instruction.specs.declared.fault.BlockFault.{BlockFault}
use Rattle.h2_cmd_judge.specs.declared.event.Event.{Event}
use Rattle.h2_cmd_judge.specs.declared.event.Event.TheVariants.{Goaway, Reset, Answered, Ended, Acknowledged, Pong, Credit, Unreadable}
use Rattle.h2_cmd_judge.specs.declared.event.Seen.{Seen}
use Rattle.h2_cmd_judge.specs.declared.frames.OpenBlock.{OpenBlock}

-- how far the server's frames are read: the limit of the header table, the last field block as far as it is decoded, and
-- which block is open
pub record ServerFrames : Type 0 where
  pub limit : ℕ
  pub block : Decoded
  pub opened : Option OpenBlock

-- a block of which nothing was read; no size update is asked for
abbrev pub unread : Table → Decoded
unread table = record { progress = start table false; outcome = Unfinished [] }

-- how a block ends so far that has a fault; refused memory and the end of a block are not among those that are kept
abbrev pub faulty : Option Outcome → Outcome
faulty (Some (Faulty fault)) = Faulty fault
faulty (Some (Unfinished rest)) = Faulty Integer
faulty None = Faulty Integer

-- how a block ends so far, by the octets that are left and the fault
abbrev pub ends_by : List ℕ → Option BlockFault → Outcome
ends_by rest None = Unfinished rest
ends_by rest (Some fault) = faulty (outcome_of rest (Some fault))

-- a block as it is kept
abbrev pub block_seen : Table → FieldsSoFar → (rest : List ℕ) → Option BlockFault → Decoded
block_seen table fields rest fault = record { progress = progress_with table fields; outcome = ends_by rest fault }

-- nothing is read; a server may make its table, of 4,096 octets, as large as 65,536 (RFC 7541, 4.2)
abbrev pub unread_frames : ServerFrames
unread_frames = record { limit = 65536; block = unread (record { entries = []; max = 4096 }); opened = None }

-- after a frame, with what it was
pub record Taken : Type 0 where
  pub after : ServerFrames
  pub event : Option Event

-- ---- the status of an answer

-- whether an octet is a digit
abbrev pub is_digit : ℕ → Bool
is_digit d = nat_le 48 d && nat_le d 57

-- the number of three digits (RFC 9110, 15)
abbrev pub status_number : List ℕ → Option ℕ
status_number (a ∷ b ∷ c ∷ []) = if is_digit a && (is_digit b && is_digit c) then Some (100 * (a - 48) + (10 * (b - 48) + (c - 48))) else None
status_number _ = None

-- the status of the first :status among fields, if there is one (RFC 9113, 8.3.2)
abbrev pub status_of : List Field → Option ℕ
status_of [] = None
status_of (f ∷ fs) = if bytes_eq f.name (codes ":status") then status_number f.value else status_of fs

-- ---- the end of a block

-- what the fields of a block are: an answer, an informational response, or trailers
abbrev pub answer_event : OpenBlock → Option ℕ → Option Event
answer_event block (Some status) = then_some (nat_le 200 status) (Answered block.stream status block.ends)
answer_event block None = if block.ends then Some (Ended block.stream) else Some (Unreadable block.stream)

-- whether a block can end so: after a whole instruction, and no size update is due
abbrev pub is_whole : Decoded → Bool
is_whole d = elim d.outcome [ Unfinished rest ↦ length rest == 0 && not d.progress.due | Faulty fault ↦ false ]

-- what a block is that has ended
abbrev pub block_event : OpenBlock → Decoded → Option Event
block_event block d = if is_whole d then answer_event block (status_of d.progress.fields) else Some (Unreadable block.stream)

-- the most octets of a list of fields after which a block is read on
abbrev pub max_list : ℕ
max_list = 65536

-- a fragment more of a block; one whose list is larger is not read any further
abbrev pub carried_more : (limit : ℕ) → Decoded → List ℕ → Decoded
carried_more limit block fragment = if nat_lt max_list (list_size block.progress.fields) then record block { outcome = Faulty Integer } else carried_on limit block fragment

-- a fragment is read; with the last one the block ends
abbrev pub with_fragment : ServerFrames → OpenBlock → (flags : ℕ) → List ℕ → Taken
with_fragment s block flags fragment =
    let decoded = carried_more s.limit s.block fragment in
    if has flags END_HEADERS then record { after = record s { block = decoded; opened = None }; event = block_event block decoded }
    else record { after = record s { block = decoded; opened = Some block }; event = None }

-- the block that HEADERS opens
abbrev pub block_of : Head → OpenBlock
block_of h = record { stream = h.stream; ends = has h.flags END_STREAM }

-- a block begins
abbrev pub begin : ServerFrames → ServerFrames
begin s = record s { block = unread s.block.progress.table }

-- HEADERS opens a block, with this fragment (6.2)
abbrev pub opened_by : ServerFrames → Head → List ℕ → Taken
opened_by s h fragment = with_fragment (begin s) (block_of h) h.flags fragment

-- ---- a frame

-- a frame that changes nothing of the blocks
abbrev pub stays : ServerFrames → Option Event → Taken
stays s event = record { after = s; event = event }

-- CONTINUATION goes on with the open block (6.10)
abbrev pub continued : ServerFrames → Option OpenBlock → (flags : ℕ) → List ℕ → Taken
continued s (Some block) flags fragment = with_fragment s block flags fragment
continued s None flags fragment = stays s None

-- after a frame with this payload
abbrev pub with_part : ServerFrames → Head → Part → Taken
with_part s h (OfData d) = stays s (then_some (has h.flags END_STREAM) (Ended h.stream))
with_part s h (OfHeaders p) = opened_by s h p.fragment
with_part s h OfPriority = stays s None
with_part s h (OfRstStream code) = stays s (Some (Reset h.stream code))
with_part s h (OfSettings pairs) = stays s None
with_part s h OfSettingsAck = stays s (Some Acknowledged)
with_part s h OfPushPromise = stays s None
with_part s h (OfPing octets) = stays s (then_some (has h.flags ACK) (Pong octets))
with_part s h (OfGoaway last code) = stays s (Some (Goaway code))
with_part s h (OfWindowUpdate octets) = stays s (Some (Credit h.stream octets))
with_part s h (OfContinuation fragment) = continued s s.opened h.flags fragment
with_part s h OfUnknown = stays s None

-- after a frame; one whose payload can't be read is passed over
abbrev pub with_payload : ServerFrames → Head → Result Part Cause → Taken
with_payload s h (Ok part) = with_part s h part
with_payload s h (Err cause) = stays s None

-- after a frame
abbrev pub with_frame : ServerFrames → Head → List ℕ → Taken
with_frame s h payload = with_payload s h (part_of h payload)

-- ---- one frame after another

-- how far octets are read: the octets that are left, and the events so far
pub record Progress : Type 0 where
  pub frames : ServerFrames
  pub rest : List ℕ
  pub events : List Seen

-- an event that came after this item, as a list
abbrev pub stamped : ℕ → Option Event → List Seen
stamped after (Some event) = record { after = after; event = event } ∷ []
stamped after None = []

-- with a frame that was taken
abbrev pub with_taken : ℕ → List Seen → (rest : List ℕ) → Taken → Progress
with_taken after events rest t = record { frames = t.after; rest = rest; events = events ++ stamped after t.event }

-- with the first frame, if there is a whole one, and then with those after it
abbrev pub read_first : ℕ → Progress → Option FirstFrame → (Progress → Progress) → Progress
read_first after p None follow = p
read_first after p (Some f) follow = follow (with_taken after p.events f.rest (with_frame p.frames f.head f.payload))

-- at most this many frames more, all of which came after this item
abbrev pub read_upto : ℕ → (after : ℕ) → Progress → Progress
read_upto zero after p = p
read_upto (suc more) after p = read_first after p (first_frame p.rest) (λ q. read_upto more after q)

-- all whole frames that octets begin with: each has nine octets or more
abbrev pub read_on : (after : ℕ) → ServerFrames → List Seen → List ℕ → Progress
read_on after s events octets = read_upto (length octets) after (record { frames = s; rest = octets; events = events })
