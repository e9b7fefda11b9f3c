-- What is noted of streams and of field blocks: the items at which they began and ended.
use Rattle.std.specs.Prelude.{◌≡◌, ℕ, Bool, true, false, ◌&&◌, ◌||◌, ◌==◌, if◌then◌else◌, Option, Some, None}
use Rattle.std.specs.BTreeMap.{get}
use Rattle.std.specs.Ordering.{nat_cmp}
use Rattle.h2_spec.specs.declared.frames.Head.{Head}
use Rattle.h2_spec.specs.declared.streams.StreamState.{StreamState}
use Rattle.h2_spec.specs.declared.streams.StreamState.TheVariants.{Idle, Skipped, BothOpen, HalfRemote, HalfLocal, Ended, PeerReset, WeReset}
use Rattle.h2_spec.specs.declared.streams.Stream.{Stream}
use Rattle.h2_spec.specs.Frames.FrameType.{CONTINUATION, END_HEADERS, HEADERS, has}
use Rattle.h2_explain_item.specs.declared.notes.Notes.{Notes}
use Rattle.h2_explain_item.specs.declared.notes.StreamNote.{StreamNote}

-- whether the client has ended its side of a stream (5.1)
abbrev pub has_client_ended : StreamState → Bool
has_client_ended Idle = false
has_client_ended Skipped = false
has_client_ended BothOpen = false
has_client_ended HalfRemote = true
has_client_ended HalfLocal = false
has_client_ended Ended = true
has_client_ended PeerReset = false
has_client_ended WeReset = false

-- whether a stream is closed (5.1)
abbrev pub is_closed : StreamState → Bool
is_closed Idle = false
is_closed Skipped = true
is_closed BothOpen = false
is_closed HalfRemote = false
is_closed HalfLocal = false
is_closed Ended = true
is_closed PeerReset = true
is_closed WeReset = true

-- whether a request opened a stream, which then has a record (5.1)
abbrev pub is_opened : StreamState → Bool
is_opened Idle = false
is_opened Skipped = false
is_opened BothOpen = true
is_opened HalfRemote = true
is_opened HalfLocal = true
is_opened Ended = true
is_opened PeerReset = true
is_opened WeReset = true

-- the note of a stream of which nothing was noted
abbrev pub unnoted : Stream → StreamNote
unnoted st = record { ended = 0; closed = 0; seen = st }

-- an item's number, where there is none yet and this is so
abbrev pub first_item : ℕ → Bool → ℕ → ℕ
first_item before now number = if before == 0 && now then number else before

-- the note of a stream as it is after an item; the item that ended the client's side may be an earlier one
abbrev pub noted : StreamNote → (number ended : ℕ) → Stream → StreamNote
noted note number ended st = record {
  ended = first_item note.ended (has_client_ended st.kind) ended;
  closed = first_item note.closed (is_closed st.kind) number;
  seen = st;
}

-- the note that there was, or that of a stream of which nothing was noted
abbrev pub note_or : Option StreamNote → Stream → StreamNote
note_or None st = unnoted st
note_or (Some note) st = note

-- the note of one stream
abbrev pub note_of : {A : Type 0} → Notes A → ℕ → Option StreamNote
note_of notes id = get nat_cmp notes.streams id

-- whether a stream is noted: one that was opened
abbrev pub is_noted : Stream → Bool
is_noted st = if st.id == 0 then false else is_opened st.kind

-- a stream was noted after an item: its note is the next one, that of each other stream is as before, and so is what is
-- noted of blocks
pub record Sees {A : Type 0} (before : Notes A) (number ended : ℕ) (st : Stream) (after : Notes A) : Type 0 where
  pub noted_now : note_of after st.id ≡ Some (noted (note_or (note_of before st.id) st) number ended st)
  pub others_same : (id : ℕ) → (id ≡ st.id → ⊥) → note_of after id ≡ note_of before id
  pub block_same : after.block ≡ before.block
  pub block_end_same : after.block_end ≡ before.block_end

-- what is noted of each stream
abbrev pub AreNotes : {A : Type 0} → Notes A → (ℕ → Option StreamNote) → Type 0
AreNotes notes note = (id : ℕ) → note_of notes id ≡ note id

-- what is noted of each stream once one was looked at after an item, if it is one to be noted
abbrev pub with_note : (number ended : ℕ) → Stream → (ℕ → Option StreamNote) → ℕ → Option StreamNote
with_note number ended st note id =
    if is_noted st && id == st.id then Some (noted (note_or (note st.id) st) number ended st) else note id

-- the same, where only a stream that has a note already is noted again
abbrev pub with_later_note : Option StreamNote → (number : ℕ) → Stream → (ℕ → Option StreamNote) → ℕ → Option StreamNote
with_later_note None number st note = note
with_later_note (Some earlier) number st note = with_note number number st note

-- whether a frame ends a field block (4.3)
abbrev pub ends_block : Head → Bool
ends_block h = (h.kind == HEADERS || h.kind == CONTINUATION) && has h.flags END_HEADERS

-- the item that ended the last field block, after this frame
abbrev pub block_end_after : ℕ → (number : ℕ) → Head → ℕ
block_end_after before number h = if ends_block h then number else before
