-- The fields that an item shows of its block (RFC 9113, 4.3): those of the fragments so far, its own among them, up to an
-- instruction that is refused.
use Rattle.std.specs.Prelude.{◌≡◌, ℕ, ◌+◌, List, length, nat_lt, if◌then◌else◌, Option, Some, None, Result, Ok, Err}
use Rattle.h2_frame.specs.declared.payload.Part as code
use Rattle.h2_frame.specs.declared.payload.Part.TheVariants as variants
use Rattle.h2_spec.specs.declared.causes.Cause.{Cause}
use Rattle.h2_spec.specs.declared.connection.BlockView.{BlockView}
use Rattle.h2_spec.specs.declared.connection.Purpose.{Purpose}
use Rattle.h2_spec.specs.declared.frames.Head.{Head}
use Rattle.h2_spec.specs.Checks.{refusal}
use Rattle.h2_spec.specs.Effect.{block_stream}
use Rattle.h2_spec.specs.Hpack.Field.{Field}
use Rattle.h2_spec.specs.Frames.Frame.{Item, Preface, BadPreface, WholeFrame, Oversize, Next, NoItem, Got}
use Rattle.h2_spec.specs.Requests.Headers.{decoded_with, fresh_block, fresh_decoding, max_block}
use Rattle.h2_spec.specs.Frames.Payload.{HeadersPart, Part, OfData, OfHeaders, OfPriority, OfRstStream, OfSettings, OfSettingsAck, OfPushPromise, OfPing, OfGoaway, OfWindowUpdate, OfContinuation, OfUnknown, part_of}
use Rattle.h2_spec.specs.ReactionTable.{Cell, headers_cell, run_cell}
use Rattle.h2_spec.specs.State.{State, OpenBlock, Decoding}
use Rattle.h2_spec.specs.Stream.{stream_at}

-- ---- by the definitions

-- the fields of a block with a fragment more; one that makes the block too large is not decoded
abbrev pub fields_with : State → BlockView → Decoding → List ℕ → List Field
fields_with s b d octets = if nat_lt max_block (b.octets + length octets) then d.fields else (decoded_with s d octets).progress.fields

-- HEADERS, by their cell of the table: only where they open a block
abbrev pub fields_opened : State → Head → HeadersPart → Cell Purpose → Option (List Field)
fields_opened s h part cell = run_cell (λ cause. None) (λ reason. None) (λ purpose. Some (fields_with s (fresh_block h) (fresh_decoding s purpose) part.fragment)) cell

-- HEADERS on the stream that their head names
abbrev pub fields_of_headers : State → Head → HeadersPart → Option (List Field)
fields_of_headers s h part = fields_opened s h part (headers_cell h.stream (stream_at s.core.last s.streams h.stream).kind)

-- CONTINUATION, where a block goes on
abbrev pub fields_continued_in : State → BlockView → Option Decoding → List ℕ → Option (List Field)
fields_continued_in s b None octets = None
fields_continued_in s b (Some d) octets = Some (fields_with s b d octets)

abbrev pub fields_continued : State → Option OpenBlock → List ℕ → Option (List Field)
fields_continued s None octets = None
fields_continued s (Some b) octets = fields_continued_in s b.shown b.decoding octets

-- a frame, by what it holds
abbrev pub part_fields : State → Head → Part → Option (List Field)
part_fields s h (OfData part) = None
part_fields s h (OfHeaders part) = fields_of_headers s h part
part_fields s h OfPriority = None
part_fields s h (OfRstStream code) = None
part_fields s h (OfSettings pairs) = None
part_fields s h OfSettingsAck = None
part_fields s h OfPushPromise = None
part_fields s h (OfPing octets) = None
part_fields s h (OfGoaway last code) = None
part_fields s h (OfWindowUpdate increment) = None
part_fields s h (OfContinuation fragment) = fields_continued s s.block fragment
part_fields s h OfUnknown = None

-- a payload, where it can be read
abbrev pub read_fields : State → Head → Result Part Cause → Option (List Field)
read_fields s h (Err cause) = None
read_fields s h (Ok part) = part_fields s h part

-- after the checks of the head
abbrev pub checked_fields : State → Head → List ℕ → Option Cause → Option (List Field)
checked_fields s h p None = read_fields s h (part_of h p)
checked_fields s h p (Some cause) = None

-- the fields that an item shows of its block; none where it is of no block, or is refused before its fragment is read
abbrev pub item_fields : State → Item → Option (List Field)
item_fields s Preface = None
item_fields s BadPreface = None
item_fields s (Oversize h) = None
item_fields s (WholeFrame h p) = checked_fields s h p (refusal (block_stream s.block) s.core.phase h)

-- those that the next item shows, if there is one
abbrev pub next_fields : State → Next → Option (List Field)
next_fields s NoItem = None
next_fields s (Got item used) = item_fields s item

-- ---- where they are

-- the fields of a block that goes on, else those that are left in memory
abbrev pub fields_in : Option Decoding → List Field → List Field
fields_in None memory = memory
fields_in (Some d) memory = d.fields

abbrev pub fields_at_hand : Option OpenBlock → List Field → List Field
fields_at_hand None memory = memory
fields_at_hand (Some b) memory = fields_in b.decoding memory

-- these are the fields that are shown, where any are
abbrev pub Shows : Option (List Field) → List Field → Type 0
Shows None fields = Unit {0}
Shows (Some shown) fields = fields ≡ shown

-- a frame that is of no block
abbrev pub IsOfNoBlock : code.Part → Type 0
IsOfNoBlock (variants.Data d) = Unit {0}
IsOfNoBlock (variants.Headers h) = ⊥
IsOfNoBlock variants.Priority = Unit {0}
IsOfNoBlock (variants.RstStream code) = Unit {0}
IsOfNoBlock (variants.Settings s) = Unit {0}
IsOfNoBlock variants.SettingsAck = Unit {0}
IsOfNoBlock variants.PushPromise = Unit {0}
IsOfNoBlock (variants.Ping octets) = Unit {0}
IsOfNoBlock (variants.Goaway last code) = Unit {0}
IsOfNoBlock (variants.WindowUpdate increment) = Unit {0}
IsOfNoBlock (variants.Continuation fragment) = ⊥
IsOfNoBlock variants.Unknown = Unit {0}
