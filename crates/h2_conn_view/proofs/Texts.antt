-- Texts that are written part after part.
use Rattle.std.proofs.Common.{◌≡◌, ◌∙◌, ℕ, zero, suc, ◌+◌, ◌<◌, List, [], ◌∷◌, ◌++◌, drop, length, map, Some, None, refl, ap, arith, append_assoc}
use Rattle.std.specs.Prelude.{slice_get}
use Rattle.std.proofs.lemmas.List.{drop_more}
use Rattle.std.proofs.lemmas.Option.{get_or_from_slice_get, slice_get_within}
use Rattle.h2_spec.specs.declared.streams.Stream.{Stream}
use Rattle.h2_spec.specs.declared.streams.StreamView.{StreamView}
use Rattle.h2_spec.specs.Hpack.Field.{Field}
use Rattle.h2_spec.specs.Texts.Show.{acked_line, block_line, entry_line, entry_lines, own_line, peer_line, phase_line, show, stream_line, stream_lines, table_line, window_line}
use Rattle.h2_spec.specs.Stream.{AreRising}
use Rattle.h2_spec.specs.Texts.View.{View, shown_stream}
use Rattle.h2_conn_view.specs.Lines.{window_text}

-- ---- places of a list

drop-at : {X : Type 0} → (k : ℕ) (xs : List X) (x : X) → slice_get xs k ≡ Some x → drop k xs ≡ x ∷ drop (k + 1) xs
drop-at k xs x e = drop_more xs k x (slice_get_within xs k x e) ∙ ap (λ q. q ∷ drop (k + 1) xs) (get_or_from_slice_get xs k x x e)

drop-past : {X : Type 0} → (k : ℕ) (xs : List X) → slice_get xs k ≡ None → drop k xs ≡ []
drop-past zero [] h = refl
drop-past (suc k) [] h = refl
drop-past zero (y ∷ ys) h = cc
drop-past (suc k) (y ∷ ys) h = drop-past k ys h

-- ---- entries of the header table

entries-first : (i : ℕ) (e : Field) (es : List Field) → entry_lines i (e ∷ es) ≡ entry_line i e ++ entry_lines (i + 1) es
unfolding entry_lines
entries-first i e es = refl

entries-none : (i : ℕ) → entry_lines i [] ≡ []
unfolding entry_lines
entries-none i = refl

pub entries-next : (k : ℕ) (es : List Field) (x : Field) → slice_get es k ≡ Some x → entry_lines (62 + k) (drop k es) ≡ entry_line (62 + k) x ++ entry_lines (62 + (k + 1)) (drop (k + 1) es)
entries-next k es x h =
    let further : 62 + k + 1 ≡ 62 + (k + 1) = omega arith in
    rw (drop-at k es x h) (entries-first (62 + k) x (drop (k + 1) es) ∙ rw further refl)

pub entries-past : (k i : ℕ) (es : List Field) → slice_get es k ≡ None → entry_lines i (drop k es) ≡ []
entries-past k i es h = ap (entry_lines i) (drop-past k es h) ∙ entries-none i

-- ---- streams

streams-first : (st : StreamView) (sts : List StreamView) → stream_lines (st ∷ sts) ≡ stream_line st ++ stream_lines sts
unfolding stream_lines
streams-first st sts = refl

streams-none : stream_lines [] ≡ []
unfolding stream_lines
streams-none = refl

pub streams-next : (k : ℕ) (sts : List Stream) (x : Stream) → slice_get sts k ≡ Some x
    → stream_lines (map shown_stream (drop k sts)) ≡ stream_line (shown_stream x) ++ stream_lines (map shown_stream (drop (k + 1) sts))
streams-next k sts x h =
    rw (drop-at k sts x h) (streams-first (shown_stream x) (map shown_stream (drop (k + 1) sts)))

pub streams-past : (k : ℕ) (sts : List Stream) → slice_get sts k ≡ None → stream_lines (map shown_stream (drop k sts)) ≡ []
streams-past k sts h = ap (λ (l : List Stream). stream_lines (map shown_stream l)) (drop-past k sts h) ∙ streams-none

-- a place in records that rise is below the last of them
pub place-below : (low last k : ℕ) (sts : List Stream) (x : Stream) → AreRising low last sts → slice_get sts k ≡ Some x → low + k < last
place-below low last k [] x r h = absurd (cc h)
place-below low last zero (st ∷ sts) x r h = omega (arith, r.0, r.2)
place-below low last (suc k) (st ∷ sts) x r h = omega (arith, r.0, place-below st.id last k sts x r.3 h)

-- ---- the whole text

-- nine texts one after another
one-by-one : (a b c d e f g h i : List ℕ) → a ++ (b ++ (c ++ (d ++ (e ++ (f ++ (g ++ (h ++ i))))))) ≡ a ++ b ++ c ++ d ++ e ++ f ++ g ++ h ++ i
one-by-one a b c d e f g h i = simp append_assoc

-- the lines in their order
all-lines : (v : View) → phase_line v.phase v.last ++ window_text v.recv v.owed v.send ++ peer_line v.peer ++ acked_line v.acked v.goaway ++ own_line v.own v.due
    ++ block_line v.block ++ table_line (length v.table) v.table_size v.table_max ++ entry_lines 62 v.table ++ stream_lines v.streams ≡ show v
unfolding show window_line window_text
all-lines v = refl

-- the text of a view, line by line
pub viewed-lines : (v : View) → phase_line v.phase v.last ++ (window_text v.recv v.owed v.send ++ (peer_line v.peer ++ (acked_line v.acked v.goaway ++ (own_line v.own v.due
    ++ (block_line v.block ++ (table_line (length v.table) v.table_size v.table_max ++ (entry_lines 62 v.table ++ stream_lines v.streams))))))) ≡ show v
viewed-lines v =
    one-by-one (phase_line v.phase v.last) (window_text v.recv v.owed v.send) (peer_line v.peer) (acked_line v.acked v.goaway) (own_line v.own v.due)
    (block_line v.block) (table_line (length v.table) v.table_size v.table_max) (entry_lines 62 v.table) (stream_lines v.streams)
    ∙ all-lines v
