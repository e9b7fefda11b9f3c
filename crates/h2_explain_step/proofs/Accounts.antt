-- What is noted of streams, and the lists of what changed on them.
use Rattle.std.proofs.Common.{◌≡◌, ◌∙◌, ℕ, zero, suc, ℤ, Bool, true, false, ◌==◌, List, [], ◌∷◌, ◌++◌, Option, Some, None, ap, append_assoc, arith, cond, refl, subst, sym}
use Rattle.std.specs.List.{All}
use Rattle.std.proofs.lemmas.Bool.{eqb-true, eqb-false}
use Rattle.std.proofs.lemmas.List.{append-nil}
use Rattle.std.proofs.lemmas.List.Elements.{All-append, All-nil}
use Rattle.std.specs.BTreeMap.{get}
use Rattle.std.specs.Ordering.{nat_cmp}
use Rattle.h2_spec.specs.State.{State}
use Rattle.h2_spec.specs.declared.streams.Stream.{Stream}
use Rattle.h2_explain_words.specs.Sent.{FirstFrame, first_frame}
use Rattle.h2_explain_step.specs.Account.{KeepsBlocks, ListsChanges, NotesItem, begun_after, block_end_with, changes_of_sent, changes_on, changes_since, moves_windows, noted_with, notes_of_sent, notes_on, streams_of, streams_then}
use Rattle.h2_explain_item.specs.Changes.{Differs, connection_changes, stream_changes}
use Rattle.h2_explain_item.specs.Item.{head_in}
use Rattle.h2_explain_item.specs.Notes.{AreNotes, Sees, is_noted, note_of, note_or, noted, with_later_note, with_note}
use Rattle.h2_explain_item.specs.declared.change.changes.ShownChange.{ShownChange}
use Rattle.h2_explain_item.specs.declared.item.Explained.{Explained}
use Rattle.h2_explain_item.specs.declared.notes.Notes.{Notes}
use Rattle.h2_explain_item.specs.declared.notes.StreamNote.{StreamNote}
use Rattle.h2_explain_item.proofs.ChangeLaws.{stream_differ}

-- ---- notes

-- a stream that was noted
pub seen_notes : {A : Type 0} (before after : Notes A) (number ended : ℕ) (st : Stream) → is_noted st ≡ true → Sees before number ended st after → AreNotes after (with_note number ended st (note_of before))
seen_notes before after number ended st is s id = rw is (at (id == st.id) refl)
  where
    at : (t : Bool) → (id == st.id) ≡ t → note_of after id ≡ cond t (Some (noted (note_or (note_of before st.id) st) number ended st)) (note_of before id)
    at true e = ap (note_of after) (eqb-true id st.id e) ∙ s.noted_now
    at false e = s.others_same id (eqb-false id st.id e)

-- a stream that is not to be noted
pub unseen_notes : {A : Type 0} (before : Notes A) (number ended : ℕ) (st : Stream) → is_noted st ≡ false → AreNotes before (with_note number ended st (note_of before))
unseen_notes before number ended st is id = rw is refl

-- after a stream was looked at
pub notes_after : {A : Type 0} (before after : Notes A) (number ended : ℕ) (st : Stream) → (is_noted st ≡ true → Sees before number ended st after) → (is_noted st ≡ false → after ≡ before) → AreNotes after (with_note number ended st (note_of before))
notes_after {A = A} before after number ended st seen same = at (is_noted st) refl
  where
    at : (t : Bool) → is_noted st ≡ t → AreNotes after (with_note number ended st (note_of before))
    at true e = seen_notes before after number ended st e (seen e)
    at false e = λ id. ap (λ (n : Notes A). note_of n id) (same e) ∙ unseen_notes before number ended st e id

-- after a stream was looked at that has a note already
pub later_notes : {A : Type 0} (before after : Notes A) (number stream : ℕ) (st now : Stream) (note : StreamNote) → Some note ≡ note_of before stream → now ≡ st
    → (is_noted now ≡ true → Sees before number number now after) → (is_noted now ≡ false → after ≡ before) → AreNotes after (with_later_note (note_of before stream) number st (note_of before))
later_notes before after number stream st now note earlier is seen same =
    subst (λ (o : Option StreamNote). AreNotes after (with_later_note o number st (note_of before))) earlier
    (subst (λ (t : Stream). AreNotes after (with_note number number t (note_of before))) is (notes_after before after number number now seen same))

-- and what is noted of blocks
pub keeps_blocks : {A : Type 0} (before after : Notes A) (number ended : ℕ) (st : Stream) → (is_noted st ≡ true → Sees before number ended st after) → (is_noted st ≡ false → after ≡ before) → KeepsBlocks before after
keeps_blocks {A = A} before after number ended st seen same = at (is_noted st) refl
  where
    at : (t : Bool) → is_noted st ≡ t → KeepsBlocks before after
    at true e = ((seen e).block_same, (seen e).block_end_same)
    at false e = (ap (λ (n : Notes A). n.block) (same e), ap (λ (n : Notes A). n.block_end) (same e))

-- ---- changes of one stream after another

-- notes that are equal lead to equal notes
with_note-same : (number ended : ℕ) (st : Stream) (f g : ℕ → Option StreamNote) → ((id : ℕ) → f id ≡ g id) → (id : ℕ) → with_note number ended st f id ≡ with_note number ended st g id
with_note-same number ended st f g same id = rw (same id, same st.id) refl

with_later-same : (o : Option StreamNote) (number : ℕ) (st : Stream) (f g : ℕ → Option StreamNote) → ((id : ℕ) → f id ≡ g id) → (id : ℕ) → with_later_note o number st f id ≡ with_later_note o number st g id
with_later-same None number st f g same id = same id
with_later-same (Some note) number st f g same id = with_note-same number number st f g same id

-- and to the same changes
pub changes_on-same : (number : ℕ) (now : ℕ → Stream) (connection : ℤ) (f g : ℕ → Option StreamNote) (ids : List ℕ) → ((id : ℕ) → f id ≡ g id) → changes_on number now connection f ids ≡ changes_on number now connection g ids
unfolding changes_on
changes_on-same number now connection f g [] same = refl
changes_on-same number now connection f g (id ∷ ids) same =
    rw (same id) (ap (λ (l : List ShownChange). changes_since (g id) (now id) connection ++ l)
    (changes_on-same number now connection (with_later_note (g id) number (now id) f) (with_later_note (g id) number (now id) g) ids (with_later-same (g id) number (now id) f g same)))

pub notes_on-same : (number : ℕ) (now : ℕ → Stream) (f g : ℕ → Option StreamNote) (ids : List ℕ) → ((id : ℕ) → f id ≡ g id) → (i : ℕ) → notes_on number now f ids i ≡ notes_on number now g ids i
unfolding notes_on
notes_on-same number now f g [] same i = same i
notes_on-same number now f g (id ∷ ids) same i =
    rw (same id) (notes_on-same number now (with_later_note (g id) number (now id) f) (with_later_note (g id) number (now id) g) ids (with_later-same (g id) number (now id) f g same) i)

-- what differs on a stream since it was noted
since_differ : (o : Option StreamNote) (st : Stream) (connection : ℤ) → All Differs (changes_since o st connection)
since_differ None st connection = All-nil Differs
since_differ (Some note) st connection = stream_differ note.seen st connection

changes_on-differ : (number : ℕ) (now : ℕ → Stream) (connection : ℤ) (f : ℕ → Option StreamNote) (ids : List ℕ) → All Differs (changes_on number now connection f ids)
unfolding changes_on
changes_on-differ number now connection f [] = All-nil Differs
changes_on-differ number now connection f (id ∷ ids) =
    All-append Differs (changes_since (f id) (now id) connection) (changes_on number now connection (with_later_note (f id) number (now id) f) ids)
    (since_differ (f id) (now id) connection) (changes_on-differ number now connection (with_later_note (f id) number (now id) f) ids)

-- ---- the frames that were sent, one after another

streams-next : (most : ℕ) (b : List ℕ) (frame : FirstFrame) → first_frame b ≡ Some frame → streams_of (suc most) b ≡ frame.head.stream ∷ streams_of most frame.rest
unfolding streams_of
streams-next most b frame e = ap (streams_then (streams_of most)) e

pub streams-none : (most : ℕ) (b : List ℕ) → first_frame b ≡ None → streams_of most b ≡ []
unfolding streams_of
streams-none zero b e = refl
streams-none (suc most) b e = ap (streams_then (streams_of most)) e

pub streams-zero : (most : ℕ) (b : List ℕ) → most ≡ 0 → streams_of most b ≡ []
unfolding streams_of
streams-zero zero b e = refl
streams-zero (suc most) b e = absurd (omega (arith, e))

-- the changes on one stream more
pub one_more : (all now next : List ShownChange) (number : ℕ) (at : ℕ → Stream) (connection : ℤ) (f g : ℕ → Option StreamNote) (most left : ℕ) (b : List ℕ) (frame : FirstFrame)
    → most ≡ suc left → first_frame b ≡ Some frame → all ≡ now ++ changes_on number at connection f (streams_of most b)
    → next ≡ now ++ changes_since (f frame.head.stream) (at frame.head.stream) connection
    → ((id : ℕ) → g id ≡ with_later_note (f frame.head.stream) number (at frame.head.stream) f id)
    → all ≡ next ++ changes_on number at connection g (streams_of left frame.rest)
unfolding changes_on
one_more all now next number at connection f g most left b frame e first is more same =
    let id = frame.head.stream in
    let later = with_later_note (f id) number (at id) f in
    let ids = streams_of left frame.rest in
    let listed = ap (λ k. streams_of k b) e ∙ streams-next left b frame first in
    let others = changes_on-same number at connection g later ids same in
    is ∙ ap (λ l. now ++ changes_on number at connection f l) listed
    ∙ sym (append_assoc now (changes_since (f id) (at id) connection) (changes_on number at connection later ids))
    ∙ ap (λ l. l ++ changes_on number at connection later ids) (sym more) ∙ ap (λ l. next ++ l) (sym others)

-- and one stream more is noted
pub one_noted : (all : ℕ → Option StreamNote) (number : ℕ) (at : ℕ → Stream) (f g : ℕ → Option StreamNote) (most left : ℕ) (b : List ℕ) (frame : FirstFrame)
    → most ≡ suc left → first_frame b ≡ Some frame → ((i : ℕ) → all i ≡ notes_on number at f (streams_of most b) i)
    → ((id : ℕ) → g id ≡ with_later_note (f frame.head.stream) number (at frame.head.stream) f id)
    → (i : ℕ) → all i ≡ notes_on number at g (streams_of left frame.rest) i
unfolding notes_on
one_noted all number at f g most left b frame e first is same i =
    let id = frame.head.stream in
    let ids = streams_of left frame.rest in
    let listed = ap (λ k. streams_of k b) e ∙ streams-next left b frame first in
    is i ∙ ap (λ l. notes_on number at f l i) listed ∙ sym (notes_on-same number at g (with_later_note (f id) number (at id) f) ids same i)

pub none_noted : (all : ℕ → Option StreamNote) (number : ℕ) (at : ℕ → Stream) (f : ℕ → Option StreamNote) (ids : List ℕ) → ids ≡ []
    → ((i : ℕ) → all i ≡ notes_on number at f ids i) → (i : ℕ) → f i ≡ all i
unfolding notes_on
none_noted all number at f ids e is i = sym (is i ∙ ap (λ l. notes_on number at f l i) e)

-- nothing is left
pub none_left : (all now : List ShownChange) (number : ℕ) (at : ℕ → Stream) (connection : ℤ) (f : ℕ → Option StreamNote) (ids : List ℕ) → ids ≡ [] → all ≡ now ++ changes_on number at connection f ids → now ≡ all
unfolding changes_on
none_left all now number at connection f ids e is = sym (is ∙ ap (λ l. now ++ changes_on number at connection f l) e ∙ append-nil now)

-- ---- what an item changed

-- the changes of the connection, of the item's stream, and then of those that frames were sent on
pub lists : (x : Explained) (s : State) (begun : ℕ) (note seen : ℕ → Option StreamNote) (a b c d : List ShownChange) → ((id : ℕ) → seen id ≡ noted_with x begun note id)
    → a ≡ [] → b ≡ a ++ connection_changes x.before x.after → c ≡ b ++ stream_changes x.before.stream x.after.stream x.after.counts.send → d ≡ c ++ changes_of_sent x s seen
    → ListsChanges x s begun note d
lists x s begun note seen a b c d same none one two three = record {
  is = rw (three, two, one, none, others) refl;
  differ = changes_on-differ x.number _ x.after.counts.send (noted_with x begun note) (streams_of _ x.sent.now);
}
  where
    others : changes_of_sent x s seen ≡ changes_of_sent x s (noted_with x begun note)
    others = changes_on-same x.number _ x.after.counts.send seen (noted_with x begun note) (streams_of _ x.sent.now) same

-- ---- what an item is noted with

-- its block is begun, the streams are looked at, its block is ended, and nothing is noted after that
pub notes-item : {A : Type 0} (x : Explained) (s : State) (old begun seen ended new : Notes A) → begun ≡ record old { block = begun_after old.block x.number x.before.block x.what }
    → KeepsBlocks begun seen → AreNotes seen (notes_of_sent x s (noted_with x begun.block (note_of begun)))
    → ended.block ≡ seen.block → ended.block_end ≡ block_end_with seen.block_end x.number (head_in x.what)
    → (moves_windows x ≡ false → ended.streams ≡ seen.streams) → new ≡ ended → NotesItem x s old new
notes-item {A = A} x s old begun seen ended new first kept are block block_end still last = record {
  block = ap (λ (n : Notes A). n.block) last ∙ block ∙ kept.0 ∙ ap (λ (n : Notes A). n.block) first;
  block_end =
      ap (λ (n : Notes A). n.block_end) last ∙ block_end
      ∙ ap (λ (k : ℕ). block_end_with k x.number (head_in x.what)) (kept.1 ∙ ap (λ (n : Notes A). n.block_end) first);
  streams = λ same id.
      ap (λ (n : Notes A). note_of n id) last ∙ ap (λ m. get nat_cmp m id) (still same)
      ∙ subst (λ (n : Notes A). AreNotes seen (notes_of_sent x s (noted_with x n.block (note_of n)))) first are id;
}
