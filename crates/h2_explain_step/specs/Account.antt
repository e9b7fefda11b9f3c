-- What is shown of an item: whether the fields of its block are, and what it changed.
use Rattle.std.specs.Prelude.{◌≡◌, ℕ, zero, suc, ℤ, Bool, true, false, not, ◌&&◌, ◌||◌, ◌==◌, if◌then◌else◌, List, [], ◌∷◌, ◌++◌, length, Option, Some, None}
use Rattle.std.specs.List.{All}
use Rattle.h2_conn.specs.Connection.{is_ended}
use Rattle.h2_spec.specs.Causes.Cause.{code_of}
use Rattle.h2_spec.specs.Opening.{opening_octets}
use Rattle.h2_spec.specs.Frames.FrameType.{CONTINUATION, END_HEADERS, HEADERS, has}
use Rattle.h2_spec.specs.Frames.Payload.{Part, OfData, OfHeaders, OfPriority, OfRstStream, OfSettings, OfSettingsAck, OfPushPromise, OfPing, OfGoaway, OfWindowUpdate, OfContinuation, OfUnknown}
use Rattle.h2_spec.specs.declared.causes.Cause.{Cause}
use Rattle.h2_spec.specs.declared.causes.Cause.TheVariants.{ListTooLarge}
use Rattle.h2_spec.specs.declared.connection.BlockView.{BlockView}
use Rattle.h2_spec.specs.declared.connection.Config.{Config}
use Rattle.h2_spec.specs.declared.connection.Phase.{Phase}
use Rattle.h2_spec.specs.declared.errors.ErrorCode.{ErrorCode}
use Rattle.h2_spec.specs.declared.errors.ErrorCode.TheVariants.{ProtocolError, FlowControlError, StreamClosed, FrameSizeError, RefusedStream, CompressionError, EnhanceYourCalm}
use Rattle.h2_spec.specs.declared.frames.Head.{Head}
use Rattle.h2_spec.specs.declared.frames.ItemHead.{ItemHead}
use Rattle.h2_spec.specs.declared.frames.ItemHead.TheVariants as head
use Rattle.h2_spec.specs.declared.streams.Stream.{Stream}
use Rattle.h2_explain_words.specs.Sent.{FirstFrame, first_frame}
use Rattle.h2_spec.specs.State.{State}
use Rattle.h2_spec.specs.Stream.{stream_at}
use Rattle.h2_spec.specs.Hpack.Field.{Field}
use Rattle.h2_explain_item.specs.FollowedTable.{Following, TableFollowed, begun, block_followed, following}
use Rattle.h2_explain_item.specs.Item.{frame_in, head_in, part_in}
use Rattle.h2_explain_item.specs.ShownBlock.{BlocksRead, read_on, unread}
use Rattle.h2_explain_item.specs.Notes.{AreNotes, block_end_after, note_of, with_later_note, with_note}
use Rattle.h2_explain_item.specs.Changes.{Differs, connection_changes, stream_changes}
use Rattle.h2_explain_item.specs.declared.change.changes.ShownChange.{ShownChange}
use Rattle.h2_explain_item.specs.declared.item.Explained.{Explained}
use Rattle.h2_explain_item.specs.declared.item.Moment.{Moment}
use Rattle.h2_explain_item.specs.declared.notes.Notes.{Notes}
use Rattle.h2_explain_item.specs.declared.notes.StreamNote.{StreamNote}

-- the fragment of a field block that a part of a payload is, if it is one: that of HEADERS or of CONTINUATION (6.2, 6.10)
abbrev pub fragment_of : Part → Option (List ℕ)
fragment_of (OfData part) = None
fragment_of (OfHeaders part) = Some part.fragment
fragment_of OfPriority = None
fragment_of (OfRstStream error) = None
fragment_of (OfSettings pairs) = None
fragment_of OfSettingsAck = None
fragment_of OfPushPromise = None
fragment_of (OfPing octets) = None
fragment_of (OfGoaway last error) = None
fragment_of (OfWindowUpdate increment) = None
fragment_of (OfContinuation fragment) = Some fragment
fragment_of OfUnknown = None

-- the fragment that a payload has, if it can be read
abbrev pub fragment_in : Option Part → Option (List ℕ)
fragment_in None = None
fragment_in (Some part) = fragment_of part

-- whether a frame belongs to the field block: HEADERS where none is open, CONTINUATION on the stream of the open one
-- (4.3, 6.10)
abbrev pub is_of_block : Option BlockView → Head → Bool
is_of_block None h = h.kind == HEADERS
is_of_block (Some block) h = h.kind == CONTINUATION && h.stream == block.stream

-- whether a code is that of the compression of fields (RFC 9113, 7)
abbrev pub is_compression : ErrorCode → Bool
is_compression ProtocolError = false
is_compression FlowControlError = false
is_compression StreamClosed = false
is_compression FrameSizeError = false
is_compression RefusedStream = false
is_compression CompressionError = true
is_compression EnhanceYourCalm = false

-- whether an error is found in the fields of a block while they are decoded (4.3, 10.5.1)
abbrev pub is_of_fields : Cause → Bool
is_of_fields ListTooLarge = true
is_of_fields cause = is_compression (code_of cause)

-- whether the fields of a block are read where an item has this cause, and the connection this phase after it: always,
-- unless a connection error came before them
abbrev pub reads_fields : Option Cause → Phase → Bool
reads_fields None phase = true
reads_fields (Some cause) phase = not (is_ended phase) || is_of_fields cause

-- whether the fields of a block are shown with a frame: it is of the block, its fields are read, and the block ends with
-- it or is refused with it (4.3)
abbrev pub shows_fields : Option BlockView → Head → Option Cause → Phase → Bool
shows_fields block h cause phase = (is_of_block block h && reads_fields cause phase) && (has h.flags END_HEADERS || is_ended phase)

-- the same of an item: never where it is no whole frame
abbrev pub shows_fields_of : ItemHead → Moment → Option Cause → Phase → Bool
shows_fields_of head.Preface before cause phase = false
shows_fields_of head.BadPreface before cause phase = false
shows_fields_of (head.Oversize h) before cause phase = false
shows_fields_of (head.Frame h) before cause phase = shows_fields before.block h cause phase

-- whether the fields of a block are shown with an item
abbrev pub shows_fields_with : Explained → Bool
shows_fields_with x = shows_fields_of x.what x.before x.cause x.after.counts.phase

-- ---- the block of the client

-- a block begins where none is open
abbrev pub begun_if : Option BlockView → BlocksRead → BlocksRead
begun_if None b = unread
begun_if (Some block) b = b

-- the block with a fragment more, if there is one
abbrev pub read_with : BlocksRead → List Field → (limit : ℕ) → Option (List ℕ) → BlocksRead
read_with b fields limit None = b
read_with b fields limit (Some fragment) = read_on b fields limit fragment

-- the same with a frame of the block, read unless a connection error came before its fields; the block has these fields
-- with it
abbrev pub read_frame : Explained → List Field → BlocksRead → Head → BlocksRead
read_frame x fields b h =
    if is_of_block x.before.block h then (let begun = begun_if x.before.block b in
    if reads_fields x.cause x.after.counts.phase then read_with begun fields x.before.counts.own.table (fragment_in (part_in (frame_in x.what x.octets.now))) else begun) else b

-- the same with an item, by what it is
abbrev pub read_as : Explained → List Field → BlocksRead → ItemHead → BlocksRead
read_as x fields b head.Preface = b
read_as x fields b head.BadPreface = b
read_as x fields b (head.Oversize h) = b
read_as x fields b (head.Frame h) = read_frame x fields b h

-- the last block of the client after an item, with which it has these fields
abbrev pub blocks_with : Explained → List Field → BlocksRead → BlocksRead
blocks_with x fields b = read_as x fields b x.what

-- the item that began the open field block, after an item: HEADERS where none was open begins one (4.3)
abbrev pub block_begun : (begun number : ℕ) → Option BlockView → Head → ℕ
block_begun begun number None h = if is_of_block None h then number else begun
block_begun begun number (Some block) h = begun

-- the same, by what the item is
abbrev pub begun_after : (begun number : ℕ) → Option BlockView → ItemHead → ℕ
begun_after begun number block head.Preface = begun
begun_after begun number block head.BadPreface = begun
begun_after begun number block (head.Oversize h) = begun
begun_after begun number block (head.Frame h) = block_begun begun number block h

-- the same of an item
abbrev pub begun_by : Explained → (begun : ℕ) → ℕ
begun_by x begun = begun_after begun x.number x.before.block x.what

-- the item that has the END_STREAM of the frame on hand: the one that began the block for a frame of a block
abbrev pub ended_with : (begun number : ℕ) → Option BlockView → Option Head → ℕ
ended_with begun number block None = number
ended_with begun number block (Some h) = if is_of_block block h then begun else number

-- ---- the header table of the client

-- a block begins where none is open
abbrev pub table_begun : Option BlockView → TableFollowed → TableFollowed
table_begun None f = begun f
table_begun (Some block) f = f

-- nothing is listed once the connection has ended
abbrev pub listed_unless : (is_ended : Bool) → Following → Following
listed_unless true w = record w { listed = [] }
listed_unless false w = w

-- the table followed over what a frame has of a block, after what was listed before
abbrev pub block_of_frame : Explained → List Field → BlocksRead → Following → Following
block_of_frame x fields b w =
    listed_unless (is_ended x.after.counts.phase) (block_followed x.number x.before.counts.own.table b fields (following (table_begun x.before.block w.followed) w.listed))

-- the same with a frame that is of the block, or is not
abbrev pub frame_followed : Explained → List Field → BlocksRead → TableFollowed → Head → Following
frame_followed x fields b f h = if is_of_block x.before.block h then block_of_frame x fields b (following f []) else following f []

-- the same with an item, by what it is
abbrev pub item_followed : Explained → List Field → BlocksRead → TableFollowed → ItemHead → Following
item_followed x fields b f head.Preface = following f []
item_followed x fields b f head.BadPreface = following f []
item_followed x fields b f (head.Oversize h) = following f []
item_followed x fields b f (head.Frame h) = frame_followed x fields b f h

-- the table after an item, and what the item entered and evicted; its block has these fields and is read so
abbrev pub followed_with : Explained → List Field → BlocksRead → TableFollowed → Following
followed_with x fields b f = item_followed x fields b f x.what

-- ---- what an item changed

-- what is other on a stream since it was noted, if it was; the connection's send window is given
abbrev pub changes_since : Option StreamNote → Stream → ℤ → List ShownChange
changes_since None st connection = []
changes_since (Some note) st connection = stream_changes note.seen st connection

-- the same of a stream after an item, and what is noted then
abbrev pub changes_seen : Explained → State → (ℕ → Option StreamNote) → ℕ → List ShownChange
changes_seen x s note id = changes_since (note id) (stream_at s.core.last s.streams id) x.after.counts.send

abbrev pub notes_seen : Explained → State → (ℕ → Option StreamNote) → ℕ → ℕ → Option StreamNote
notes_seen x s note id = with_later_note (note id) x.number (stream_at s.core.last s.streams id) note

-- what is other on streams, one after another, each since it was noted; it is noted again then
unfoldable pub changes_on : (number : ℕ) → (now : ℕ → Stream) → (connection : ℤ) → (note : ℕ → Option StreamNote) → List ℕ → List ShownChange
changes_on number now connection note [] = []
changes_on number now connection note (id ∷ ids) =
    changes_since (note id) (now id) connection ++ changes_on number now connection (with_later_note (note id) number (now id) note) ids

-- what is noted once streams were looked at after an item, one after another; only one that has a note is noted again
unfoldable pub notes_on : (number : ℕ) → (now : ℕ → Stream) → (note : ℕ → Option StreamNote) → List ℕ → ℕ → Option StreamNote
notes_on number now note [] = note
notes_on number now note (id ∷ ids) = notes_on number now (with_later_note (note id) number (now id) note) ids

-- the streams of the frames in octets, in order, of that many frames at most (4.1)
abbrev pub streams_then : (List ℕ → List ℕ) → Option FirstFrame → List ℕ
streams_then more None = []
streams_then more (Some frame) = frame.head.stream ∷ more frame.rest

unfoldable pub streams_of : ℕ → List ℕ → List ℕ
streams_of zero b = []
streams_of (suc most) b = streams_then (streams_of most) (first_frame b)

-- what an item changed on the streams that frames were sent on for it, which are noted as they were before the item
abbrev pub changes_of_sent : Explained → State → (ℕ → Option StreamNote) → List ShownChange
changes_of_sent x s note = changes_on x.number (stream_at s.core.last s.streams) x.after.counts.send note (streams_of (length x.sent.now) x.sent.now)

-- what is noted once the stream of an item was looked at; the item that began its block is given
abbrev pub noted_with : Explained → (begun : ℕ) → (ℕ → Option StreamNote) → ℕ → Option StreamNote
noted_with x begun note = with_note x.number (ended_with begun x.number x.before.block (head_in x.what)) x.after.stream note

-- what an item changed: on the connection, on its stream, and then on the streams that frames were sent on for it; each
-- of these has a value after it that differs from the value before it
pub record ListsChanges (x : Explained) (s : State) (begun : ℕ) (note : ℕ → Option StreamNote) (list : List ShownChange) : Type 0 where
  pub is :
      list ≡ connection_changes x.before x.after ++ stream_changes x.before.stream x.after.stream x.after.counts.send ++ changes_of_sent x s (noted_with x begun note)
  pub differ : All Differs (changes_of_sent x s (noted_with x begun note))

-- ---- what is noted after an item

-- what is noted of the open block and of the last one stays
abbrev pub KeepsBlocks : {A : Type 0} → Notes A → Notes A → Type 0
KeepsBlocks before after = (after.block ≡ before.block) × (after.block_end ≡ before.block_end)

-- what is noted of streams once those of the frames were looked at that were sent for an item
abbrev pub notes_of_sent : Explained → State → (ℕ → Option StreamNote) → ℕ → Option StreamNote
notes_of_sent x s note = notes_on x.number (stream_at s.core.last s.streams) note (streams_of (length x.sent.now) x.sent.now)

-- an initial window of one side is another after an item, which moves the windows of other streams too (6.9.2)
abbrev pub moves_windows : Explained → Bool
moves_windows x = not (x.before.counts.peer.window == x.after.counts.peer.window) || not (x.before.counts.own.window == x.after.counts.own.window)

-- the item that ended the last field block, after an item
abbrev pub block_end_with : ℕ → (number : ℕ) → Option Head → ℕ
block_end_with before number None = before
block_end_with before number (Some h) = block_end_after before number h

-- an item was noted: where its field block began and ended, and, unless it moves the windows of other streams, its own stream and then
-- those of the frames that were sent for it
pub record NotesItem {A : Type 0} (x : Explained) (s : State) (before after : Notes A) : Type 0 where
  pub block : after.block ≡ begun_by x before.block
  pub block_end : after.block_end ≡ block_end_with before.block_end x.number (head_in x.what)
  pub streams :
      moves_windows x ≡ false → AreNotes after (notes_of_sent x s (noted_with x (begun_by x before.block) (note_of before)))

-- the octets that the server sends before it reads anything, where they are asked for
abbrev pub opening_if : Config → Bool → List ℕ
opening_if config false = []
opening_if config true = opening_octets config
