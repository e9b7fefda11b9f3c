-- The rules of an item keep the tests, and what state and tally have to do with each other: DATA, RST_STREAM,
-- WINDOW_UPDATE.
use Rattle.std.proofs.Common.{◌≡◌, ℕ, ◌+◌, ◌<◌, ◌≤◌, Bool, true, false, cond, ◌&&◌, List, [], ◌∷◌, ◌++◌, refl, sym, subst, ◌∙◌, arith, eqb, append_assoc, Option, Some, None}
use Rattle.std.proofs.lemmas.Bool.{eqb-true, ne_eqb}
use Rattle.std.proofs.lemmas.Int.{ints}
use Rattle.std.specs.Prelude.{ℤ, pos, int_lt, ◌+ℤ◌, ◌-ℤ◌}
use Rattle.h2_spec.specs.declared.causes.Cause.TheVariants.{ConnectionWindowExceeded, DataAfterEndStream, ConnectionIncrementZero, ConnectionWindowOverflow}
use Rattle.h2_spec.specs.declared.connection.ConnectionState.{ConnectionState}
use Rattle.h2_spec.specs.declared.reactions.ReceivedData.{ReceivedData}
use Rattle.h2_spec.specs.declared.reactions.Change.{Change}
use Rattle.h2_spec.specs.declared.reactions.ConnectionFrame.{ConnectionFrame}
use Rattle.h2_spec.specs.declared.reactions.ConnectionFrame.TheVariants.{NoConnectionFrame, SettingsAck, PingAck, Credit}
use Rattle.h2_spec.specs.declared.reactions.Reaction.{Reaction}
use Rattle.h2_spec.specs.declared.reactions.Reaction.TheVariants.{ConnectionError, Continues}
use Rattle.h2_spec.specs.declared.ignored.Ignored.{Ignored}
use Rattle.h2_spec.specs.declared.ignored.Ignored.TheVariants.{DataOnReset, RstStreamOnSkipped, RstStreamOnClosed, RstStreamOnPeerReset, RstStreamOnReset, WindowUpdateOnSkipped, WindowUpdateOnClosed, WindowUpdateOnPeerReset, WindowUpdateOnReset}
use Rattle.h2_spec.specs.declared.reactions.StreamOutcome.{StreamOutcome}
use Rattle.h2_spec.specs.declared.streams.StreamState.{StreamState}
use Rattle.h2_spec.specs.declared.streams.StreamState.TheVariants.{Idle, Skipped, BothOpen, HalfRemote, HalfLocal, Ended, PeerReset, WeReset}
use Rattle.h2_spec.specs.declared.streams.Stream.{Stream}
use Rattle.h2_spec.specs.Frames.Frame.{Frame}
use Rattle.h2_spec.specs.Requests.Answer.{Entry, picked}
use Rattle.h2_spec.specs.Window.{is_above_max, given_back}
use Rattle.h2_spec.specs.Stream.{record_of, stream_at, put}
use Rattle.h2_spec.specs.State.{State}
use Rattle.h2_spec.specs.Change.{answer_begun, only_counts, ignoring, with_outcome, after, connection_frames, stream_frames, answer_frames, frames_of, stream_error}
use Rattle.h2_spec.specs.ReactionTable.{run_cell, data_cell, reset_cell, unless_zero, window_cell}
use Rattle.h2_spec.specs.Data.{counted, owed_on_connection, owed_as, if_within, data_taken, data_refused, data_counted, data_outcome}
use Rattle.h2_spec.specs.WindowUpdate.{connection_window, window_outcome}
use Rattle.h2_spec.specs.Requests.Headers.{FrameEffect, Breaks, Makes, makes}
use Rattle.h2_spec.specs.Effect.{ignore, data_rule, on_data, body_length, reset_rule, reset_outcome, on_reset, window_rule, on_window}
use Rattle.h2_spec_laws.specs.Grants.{StreamTally, Tally, with_tally_on, sends_data}
use Rattle.h2_spec_laws.specs.Order.{Rise}
use Rattle.h2_spec_laws.proofs.grants.Tallies.{Leads, Leads-append, quiet-append}
use Rattle.h2_spec_laws.proofs.grants.Agreement.{FitsAs, Fits, Absent, Unasked, FitsStreams, IsRecorded, HasBody, FitsBlock, Agreement}
use Rattle.h2_spec_laws.proofs.grants.Turns.{OnlyOn, other-leads, own-leads, tallied_all, outcome_frames, Proper, Good, Uncut-live, error-proper, error-good, data_turn-proper, data_turn-good, IsOver, now_reset, granted_more, reset_turn-proper, reset_turn-good, over-reset, window_turn-proper, window_turn-good, over-granted}
use Rattle.h2_spec_laws.proofs.grants.Records.{at-id, at-found, at-skipped, found-body, found-fits, found-not_absent, unfound, put-absent, put-bodies, put-own, put-other, put-in_order, retallied, untallied}

-- what a change leaves; t: the tally with what the item brought
pub record Moves (book : List Entry) (id : ℕ) (t : Tally) (s : State) (c : Change) : Type 0 where
  pub tally : Tally
  pub leads : Leads id t (frames_of s.book c) tally
  pub quiet : sends_data id (frames_of s.book c) ≡ false
  pub agrees : Agreement book id (after s c) tally

-- unless the item ends the connection
abbrev pub Kept : List Entry → ℕ → Tally → FrameEffect → Type 0
Kept book id t (Breaks cause) = Unit {0}
Kept book id t (Makes s c) = Moves book id t s c

pub either-kept : (book : List Entry) (id : ℕ) (t : Tally) (s : State) (b : Bool) (x y : Reaction) → Kept book id t (makes s x) → Kept book id t (makes s y) → Kept book id t (makes s (cond b x y))
either-kept book id t s true x y h g = h
either-kept book id t s false x y h g = g

-- ---- frames that are no DATA

and-false : (b : Bool) → (b && false) ≡ false
and-false true = refl
and-false false = refl

pub quiet-only : (id j : ℕ) (fs : List Frame) → OnlyOn j fs → sends_data id fs ≡ false
quiet-only id j [] o = refl
quiet-only id j (f ∷ fs) o = rw (o.1, and-false (eqb f.stream id)) (quiet-only id j fs o.2)

only-append : (j : ℕ) (fs gs : List Frame) → OnlyOn j fs → OnlyOn j gs → OnlyOn j (fs ++ gs)
only-append j [] gs o q = q
only-append j (f ∷ fs) gs o q = (o.0, o.1, only-append j fs gs o.2 q)

first-only : (f : ConnectionFrame) → OnlyOn 0 (connection_frames f)
first-only NoConnectionFrame = tt
first-only SettingsAck = (refl, refl, tt)
first-only (PingAck octets) = (refl, refl, tt)
first-only (Credit n) = (refl, refl, tt)

pub not_zero : (id : ℕ) → 1 ≤ id → eqb 0 id ≡ false
not_zero id h = ne_eqb 0 id (λ e. absurd (omega arith))

-- the counts change, and a frame is sent on stream 0
pub stays : (book : List Entry) (id : ℕ) (t : Tally) (s : State) (core : ConnectionState) (first : ConnectionFrame) → 1 ≤ id → Agreement book id (record s { core = core }) t →
    Moves book id t s (record (only_counts core) { connection_frame = first })
unfolding frames_of
stays book id t s core first h x =
    let only = only-append 0 (connection_frames first ++ []) [] (only-append 0 (connection_frames first) [] (first-only first) tt) tt in
    record { tally = t; leads = other-leads id 0 t _ (not_zero id h) only; quiet = quiet-only id 0 _ only; agrees = x }

-- why an item is ignored changes nothing of it
pub because : (book : List Entry) (id : ℕ) (t : Tally) (s : State) (c : Change) (reason : Option Ignored) → Moves book id t s c → Moves book id t s (record c { ignored = reason })
unfolding frames_of
because book id t s c reason m = record { tally = m.tally; leads = m.leads; quiet = m.quiet; agrees = m.agrees }

-- ---- a turn of one stream

frames-turned : (book : List Entry) (c : Change) (outcome : StreamOutcome) → frames_of book (with_outcome c outcome) ≡ connection_frames c.connection_frame ++ outcome_frames book c.core.peer.size_update_pending outcome
unfolding frames_of with_outcome
frames-turned book c outcome = append_assoc (connection_frames c.connection_frame) (stream_frames outcome.frame) (answer_frames book (answer_begun c.core.peer.size_update_pending outcome.stream.id outcome.answer))

-- m: the stream's tally with what the item brought
module _ (id : ℕ) (s : State) (t : Tally) (m : StreamTally) (c : Change) (st : Stream) (outcome : StreamOutcome)
    (pos_id : 1 ≤ id) (x : Agreement s.book id (record s { core = c.core }) t) (no_block : s.block ≡ None)
    (proper : Proper s.book st outcome) (body : HasBody s.book st) (ordered : Rise 0 c.core.last (put outcome.stream s.streams))
    (good : eqb st.id id ≡ true → Good s.book t.window m outcome)
    (other : eqb st.id id ≡ false → m ≡ t.on_stream)
    (not_idle : eqb st.id id ≡ true → c.core.last < id → ⊥) where
  abbrev brought : Tally
  brought = record t { on_stream = m }

  abbrev streams : List Stream
  streams = put outcome.stream s.streams

  joined : (u : Tally) → Leads id brought (outcome_frames s.book c.core.peer.size_update_pending outcome) u → Leads id brought (frames_of s.book (with_outcome c outcome)) u
  joined u l =
      let front : Leads id brought (connection_frames c.connection_frame) brought = other-leads id 0 brought (connection_frames c.connection_frame) (not_zero id pos_id) (first-only c.connection_frame) in
      rw (frames-turned s.book c outcome) (Leads-append id brought brought u (connection_frames c.connection_frame) (outcome_frames s.book c.core.peer.size_update_pending outcome) front l)

  silent : sends_data id (frames_of s.book (with_outcome c outcome)) ≡ false
  silent = rw (frames-turned s.book c outcome) (quiet-append id (connection_frames c.connection_frame) (outcome_frames s.book c.core.peer.size_update_pending outcome) (quiet-only id 0 (connection_frames c.connection_frame) (first-only c.connection_frame)) (quiet-only id st.id (outcome_frames s.book c.core.peer.size_update_pending outcome) (proper.only c.core.peer.size_update_pending)))

  -- the state after it agrees with another tally
  agrees-with : (n : StreamTally) → FitsStreams s.book t.window id streams n → (c.core.last < id → (n ≡ t.on_stream) × Absent id streams) → Agreement s.book id (after s (with_outcome c outcome)) (record t { on_stream = n })
  unfolding with_outcome
  agrees-with n f i = record {
    running = x.running;
    same_book = x.same_book;
    same_window = x.same_window;
    same_frame = x.same_frame;
    some_frame = x.some_frame;
    send_is = x.send_is;
    within = x.within;
    agreed = f;
    bodies = put-bodies s.book outcome.stream s.streams (proper.has_body body) x.bodies;
    ordered = ordered;
    idle = λ h. ((i h).0 ∙ (x.idle h).0, (i h).1);
    of_block = subst (λ o. FitsBlock id c.core.last streams o n) (sym no_block) tt;
  }

  outcome-own : eqb st.id id ≡ true → Moves s.book id brought s (with_outcome c outcome)
  outcome-own e =
      let g : Good s.book t.window m outcome = good e in
      let n : StreamTally = tallied_all m (outcome_frames s.book c.core.peer.size_update_pending outcome) in
      record {
        tally = record t { on_stream = n };
        leads = joined (record t { on_stream = n }) (own-leads id st.id brought (outcome_frames s.book c.core.peer.size_update_pending outcome) e (proper.only c.core.peer.size_update_pending) (g.in_turn c.core.peer.size_update_pending));
        quiet = silent;
        agrees = agrees-with n (put-own s.book t.window id outcome.stream s.streams t.on_stream n (proper.same_id ∙ eqb-true st.id id e) x.agreed (g.fits c.core.peer.size_update_pending)) (λ h. absurd (not_idle e h));
      }

  outcome-other : eqb st.id id ≡ false → Moves s.book id brought s (with_outcome c outcome)
  outcome-other e =
      let outcome_id : eqb outcome.stream.id id ≡ false = rw proper.same_id e in
      record {
        tally = brought;
        leads = joined brought (other-leads id st.id brought (outcome_frames s.book c.core.peer.size_update_pending outcome) e (proper.only c.core.peer.size_update_pending));
        quiet = silent;
        agrees = agrees-with m (subst (FitsStreams s.book t.window id streams) (sym (other e)) (put-other s.book t.window id outcome.stream s.streams t.on_stream outcome_id x.agreed))
            (λ h. (other e, put-absent id outcome.stream s.streams outcome_id (x.idle h).1));
      }

  pub outcome-kept : Moves s.book id brought s (with_outcome c outcome)
  outcome-kept = at (eqb st.id id) refl
    where
      at : (b : Bool) → eqb st.id id ≡ b → Moves s.book id brought s (with_outcome c outcome)
      at true e = outcome-own e
      at false e = outcome-other e

-- on a stream that has a record
pub record-kept : (id : ℕ) (s : State) (t : Tally) (m : StreamTally) (c : Change) (j : ℕ) (outcome : StreamOutcome) → 1 ≤ id → Agreement s.book id (record s { core = c.core }) t → s.block ≡ None →
    let st : Stream = stream_at s.core.last s.streams j in
    IsRecorded st.kind → Proper s.book st outcome →
    (eqb j id ≡ true → Fits s.book t.window st t.on_stream → Good s.book t.window m outcome) → (eqb j id ≡ false → m ≡ t.on_stream) →
    Moves s.book id (record t { on_stream = m }) s (with_outcome c outcome)
record-kept id s t m c j outcome pos_id x none r proper good other =
    let st : Stream = stream_at s.core.last s.streams j in
    let same : st.id ≡ j = at-id s.core.last s.streams j in
    let found : record_of s.streams j ≡ Some st = at-found s.core.last s.streams j r in
    let own : (e : eqb st.id id ≡ true) → record_of s.streams id ≡ Some st = λ e. subst (λ i. record_of s.streams i ≡ Some st) (sym same ∙ eqb-true st.id id e) found in
    outcome-kept id s t m c st outcome pos_id x none proper (found-body s.book j s.streams st found x.bodies)
    (put-in_order 0 c.core.last outcome.stream s.streams st (subst (λ i. record_of s.streams i ≡ Some st) (sym (proper.same_id ∙ same)) found) x.ordered)
    (λ e. good (subst (λ i. eqb i id ≡ true) same e) (found-fits s.book t.window id s.streams t.on_stream st (own e) x.agreed))
    (λ e. other (subst (λ i. eqb i id ≡ false) same e))
    (λ e h. found-not_absent id s.streams st (own e) (x.idle h).1)

-- ---- streams that are live

abbrev pub IsLive : StreamState → Type 0
IsLive Idle = ⊥
IsLive Skipped = ⊥
IsLive BothOpen = Unit {0}
IsLive HalfRemote = Unit {0}
IsLive HalfLocal = Unit {0}
IsLive Ended = ⊥
IsLive PeerReset = ⊥
IsLive WeReset = ⊥

pub live-reset : (kind : StreamState) (body : List ℕ) (window : ℕ) (send : ℤ) (left : Option ℕ) (m : StreamTally) → IsLive kind → FitsAs kind body window send left m → m.reset ≡ false
live-reset BothOpen body window send left m l f = f.reset
live-reset HalfRemote body window send left m l f = f.reset
live-reset HalfLocal body window send left m l f = f.1
live-reset Idle body window send left m l f = absurd l
live-reset Skipped body window send left m l f = absurd l
live-reset Ended body window send left m l f = absurd l
live-reset PeerReset body window send left m l f = absurd l
live-reset WeReset body window send left m l f = absurd l

-- ---- DATA

-- what is counted on the connection moves nothing that is sent
counted-agrees : (id : ℕ) (s : State) (t : Tally) (threshold n : ℕ) → Agreement s.book id s t → Agreement s.book id (record s { core = (counted threshold s.core n).core }) t
unfolding counted owed_on_connection
counted-agrees id s t threshold n x = at (given_back threshold (s.core.owed + n))
  where
    core : ConnectionState
    core = record s.core { recv = s.core.recv -ℤ pos n }

    at : (o : Option ℕ) → Agreement s.book id (record s { core = (owed_as o core (core.owed + n)).core }) t
    at (Some k) = x
    at None = x

counted-moves : (id : ℕ) (s : State) (t : Tally) (threshold n : ℕ) → 1 ≤ id → Agreement s.book id s t → Moves s.book id t s (counted threshold s.core n)
unfolding counted owed_on_connection
counted-moves id s t threshold n pos_id x = at (given_back threshold (s.core.owed + n))
  where
    core : ConnectionState
    core = record s.core { recv = s.core.recv -ℤ pos n }

    at : (o : Option ℕ) → Moves s.book id t s (owed_as o core (core.owed + n))
    at (Some k) = stays s.book id t s _ (Credit k) pos_id x
    at None = stays s.book id t s _ NoConnectionFrame pos_id x

within-kept : (id : ℕ) (s : State) (t : Tally) (n : ℕ) (c : Change) → Moves s.book id t s c → Kept s.book id t (makes s (if_within s.core n c))
within-kept id s t n c h = either-kept s.book id t s (int_lt s.core.recv (pos n)) (ConnectionError ConnectionWindowExceeded) (Continues c) tt h

pub data-kept : (id : ℕ) (s : State) (t : Tally) (j : ℕ) (d : ReceivedData) → 1 ≤ id → Agreement s.book id s t → s.block ≡ None →
    let st : Stream = stream_at s.core.last s.streams j in
    Kept s.book id t (makes s (on_data s.config s.core (body_length s.book st) d st))
unfolding on_data data_taken data_refused data_counted
data-kept id s t j d pos_id x none = at st.kind refl
  where
    st : Stream
    st = stream_at s.core.last s.streams j

    c : Change
    c = counted s.config.credit s.core d.octets

    on_record : (outcome : StreamOutcome) → IsRecorded st.kind → Proper s.book st outcome → (Fits s.book t.window st t.on_stream → Good s.book t.window t.on_stream outcome) → Moves s.book id t s (with_outcome c outcome)
    on_record outcome r proper good = record-kept id s t t.on_stream c j outcome pos_id (counted-agrees id s t s.config.credit d.octets x) none r proper (λ e f. good f) (λ e. refl)

    take : (k : StreamState) → IsLive k → IsRecorded k → st.kind ≡ k → Kept s.book id t (makes s (data_taken s.config s.core (body_length s.book st) d st))
    take k l r e = within-kept id s t d.octets _
        (on_record (data_outcome s.config.credit (body_length s.book st) d st) (subst IsRecorded (sym e) r) (data_turn-proper s.book s.config.credit d st)
        (λ f. data_turn-good s.book t.window t.on_stream s.config.credit d st f (live-reset st.kind (picked s.book st.pick).body t.window st.numbers.send st.numbers.body_remaining t.on_stream (subst IsLive (sym e) l) f)))

    refuse : st.kind ≡ HalfRemote → Kept s.book id t (makes s (data_refused s.config s.core d st DataAfterEndStream))
    refuse e = within-kept id s t d.octets _
        (on_record (stream_error st.id DataAfterEndStream) (subst IsRecorded (sym e) tt) (error-proper s.book st DataAfterEndStream)
        (λ f. error-good s.book t.window t.on_stream st.id DataAfterEndStream
        (Uncut-live st.kind (picked s.book st.pick).body t.window st.numbers.send st.numbers.body_remaining t.on_stream f (live-reset st.kind (picked s.book st.pick).body t.window st.numbers.send st.numbers.body_remaining t.on_stream (subst IsLive (sym e) tt) f))))

    count : Kept s.book id t (makes s (data_counted s.config s.core d DataOnReset))
    count = within-kept id s t d.octets _ (because s.book id t s c (Some DataOnReset) (counted-moves id s t s.config.credit d.octets pos_id x))

    at : (k : StreamState) → st.kind ≡ k → Kept s.book id t (makes s (run_cell ConnectionError (ignore s.core) (λ rule. data_rule rule s.config s.core (body_length s.book st) d st) (data_cell k)))
    at Idle e = tt
    at Skipped e = tt
    at BothOpen e = take BothOpen tt tt e
    at HalfRemote e = refuse e
    at HalfLocal e = take HalfLocal tt tt e
    at Ended e = tt
    at PeerReset e = tt
    at WeReset e = count

-- ---- RST_STREAM and WINDOW_UPDATE on a stream

-- the same state agrees with another tally
re-agrees : (id : ℕ) (s : State) (t : Tally) (n : StreamTally) → Agreement s.book id s t → s.block ≡ None → FitsStreams s.book t.window id s.streams n → (s.core.last < id → ⊥) → Agreement s.book id s (record t { on_stream = n })
re-agrees id s t n x none f busy = record {
  running = x.running;
  same_book = x.same_book;
  same_window = x.same_window;
  same_frame = x.same_frame;
  some_frame = x.some_frame;
  send_is = x.send_is;
  within = x.within;
  agreed = f;
  bodies = x.bodies;
  ordered = x.ordered;
  idle = λ h. absurd (busy h);
  of_block = subst (λ o. FitsBlock id s.core.last s.streams o n) (sym none) tt;
}

-- what is kept where a frame on stream j makes this of the tally of its stream, and has this rule where the stream is
-- live, and none where it is not
record ByState (id : ℕ) (s : State) (t : Tally) (j : ℕ) (n : StreamTally) (rule : Stream → StreamOutcome) : Type 0 where
  live : (k : StreamState) → IsLive k → IsRecorded k → (stream_at s.core.last s.streams j).kind ≡ k → Moves s.book id (with_tally_on id j t n) s (with_outcome (only_counts s.core) (rule (stream_at s.core.last s.streams j)))
  over : (k : StreamState) → IsOver k → IsRecorded k → (stream_at s.core.last s.streams j).kind ≡ k → (reason : Ignored) → Moves s.book id (with_tally_on id j t n) s (ignoring reason (only_counts s.core))
  skipped : (stream_at s.core.last s.streams j).kind ≡ Skipped → (reason : Ignored) → Moves s.book id (with_tally_on id j t n) s (ignoring reason (only_counts s.core))

module _ (id : ℕ) (s : State) (t : Tally) (j : ℕ) (n : StreamTally) (rule : Stream → StreamOutcome)
    (pos_id : 1 ≤ id) (x : Agreement s.book id s t) (none : s.block ≡ None)
    (proper : (st : Stream) → Proper s.book st (rule st))
    (good : (st : Stream) → Fits s.book t.window st t.on_stream → t.on_stream.reset ≡ false → Good s.book t.window n (rule st))
    (over : (st : Stream) → IsOver st.kind → Fits s.book t.window st t.on_stream → Fits s.book t.window st n)
    (unasked : Unasked t.on_stream → Unasked n) where
  abbrev st : Stream
  st = stream_at s.core.last s.streams j

  abbrev tallied : Tally
  tallied = with_tally_on id j t n

  -- nothing changes but the tally
  nothing-own : (b : Bool) → eqb j id ≡ b → (j ≡ id → FitsStreams s.book t.window id s.streams n × (s.core.last < id → ⊥)) → Moves s.book id (record t { on_stream = cond b n t.on_stream }) s (only_counts s.core)
  nothing-own false e f = stays s.book id t s s.core NoConnectionFrame pos_id x
  nothing-own true e f = let g = f (eqb-true j id e) in stays s.book id (record t { on_stream = n }) s s.core NoConnectionFrame pos_id (re-agrees id s t n x none g.0 g.1)

  nothing-over : (k : StreamState) → IsOver k → IsRecorded k → st.kind ≡ k → Moves s.book id tallied s (only_counts s.core)
  nothing-over k o r e = nothing-own (eqb j id) refl (λ g.
      let found : record_of s.streams id ≡ Some st = subst (λ i. record_of s.streams i ≡ Some st) g (at-found s.core.last s.streams j (subst IsRecorded (sym e) r)) in
      (retallied s.book t.window id s.streams t.on_stream n st found (over st (subst IsOver (sym e) o)) x.agreed, λ h. found-not_absent id s.streams st found (x.idle h).1))

  nothing-skipped : st.kind ≡ Skipped → Moves s.book id tallied s (only_counts s.core)
  nothing-skipped e = nothing-own (eqb j id) refl (λ g.
      let missing = at-skipped s.book s.core.last s.streams j x.bodies e in
      let u = unfound s.book t.window id s.streams t.on_stream (subst (λ i. record_of s.streams i ≡ None) g missing.1) x.agreed in
      (untallied s.book t.window id s.streams n u.1 (unasked u.0), λ h. let passed = missing.0 in absurd (omega arith)))

  rule-live : (k : StreamState) → IsLive k → IsRecorded k → st.kind ≡ k → Moves s.book id tallied s (with_outcome (only_counts s.core) (rule st))
  rule-live k l r e =
      record-kept id s t (cond (eqb j id) n t.on_stream) (only_counts s.core) j (rule st) pos_id x none (subst IsRecorded (sym e) r) (proper st)
      (λ own f. rw own (good st f (live-reset st.kind (picked s.book st.pick).body t.window st.numbers.send st.numbers.body_remaining t.on_stream (subst IsLive (sym e) l) f)))
      (λ other. rw other refl)

  by-state : ByState id s t j n rule
  by-state = record {
    live = rule-live;
    over = λ k o r e reason. because s.book id tallied s (only_counts s.core) (Some reason) (nothing-over k o r e);
    skipped = λ e reason. because s.book id tallied s (only_counts s.core) (Some reason) (nothing-skipped e);
  }

-- by the state of the stream, with the table of RST_STREAM and that of WINDOW_UPDATE, which are alike
module _ (id : ℕ) (s : State) (t : Tally) (j : ℕ) (pos_id : 1 ≤ id) (x : Agreement s.book id s t) (none : s.block ≡ None) where
  abbrev on : Stream
  on = stream_at s.core.last s.streams j

  unasked-more : (n : StreamTally) → n.promised ≡ t.on_stream.promised → n.headers ≡ t.on_stream.headers → n.content ≡ t.on_stream.content → n.ended ≡ t.on_stream.ended → Unasked t.on_stream → Unasked n
  unasked-more n a b c d u = record { promised = a ∙ u.promised; headers = b ∙ u.headers; content = c ∙ u.content; ended = d ∙ u.ended }

  pub reset-kept : Kept s.book id (with_tally_on id j t (now_reset t.on_stream)) (makes s (on_reset s.core on))
  unfolding on_reset
  reset-kept = at on.kind refl
    where
      rules : ByState id s t j (now_reset t.on_stream) reset_outcome
      rules = by-state id s t j (now_reset t.on_stream) reset_outcome pos_id x none (reset_turn-proper s.book) (reset_turn-good s.book t.window t.on_stream)
          (λ st. over-reset st.kind (picked s.book st.pick).body t.window st.numbers.send st.numbers.body_remaining t.on_stream) (unasked-more (now_reset t.on_stream) refl refl refl refl)

      at : (k : StreamState) → on.kind ≡ k → Kept s.book id (with_tally_on id j t (now_reset t.on_stream)) (makes s (run_cell ConnectionError (ignore s.core) (λ r. reset_rule r s.core on) (reset_cell k)))
      at Idle e = tt
      at Skipped e = rules.skipped e RstStreamOnSkipped
      at BothOpen e = rules.live BothOpen tt tt e
      at HalfRemote e = rules.live HalfRemote tt tt e
      at HalfLocal e = rules.live HalfLocal tt tt e
      at Ended e = rules.over Ended tt tt e RstStreamOnClosed
      at PeerReset e = rules.over PeerReset tt tt e RstStreamOnPeerReset
      at WeReset e = rules.over WeReset tt tt e RstStreamOnReset

  pub window-kept : (i : ℕ) → Kept s.book id (with_tally_on id j t (granted_more i t.on_stream)) (makes s (on_window s.core i on))
  unfolding on_window
  window-kept i = at on.kind refl
    where
      rules : ByState id s t j (granted_more i t.on_stream) (window_outcome i)
      rules = by-state id s t j (granted_more i t.on_stream) (window_outcome i) pos_id x none (window_turn-proper s.book i) (window_turn-good s.book t.window t.on_stream i)
          (λ st. over-granted st.kind (picked s.book st.pick).body t.window st.numbers.send st.numbers.body_remaining t.on_stream i) (unasked-more (granted_more i t.on_stream) refl refl refl refl)

      at : (k : StreamState) → on.kind ≡ k → Kept s.book id (with_tally_on id j t (granted_more i t.on_stream)) (makes s (run_cell ConnectionError (ignore s.core) (λ r. window_rule r s.core i on) (window_cell (eqb i 0) k)))
      at Idle e = tt
      at Skipped e = rules.skipped e (unless_zero (eqb i 0) WindowUpdateOnSkipped)
      at BothOpen e = rules.live BothOpen tt tt e
      at HalfRemote e = rules.live HalfRemote tt tt e
      at HalfLocal e = rules.live HalfLocal tt tt e
      at Ended e = rules.over Ended tt tt e (unless_zero (eqb i 0) WindowUpdateOnClosed)
      at PeerReset e = rules.over PeerReset tt tt e (unless_zero (eqb i 0) WindowUpdateOnPeerReset)
      at WeReset e = rules.over WeReset tt tt e (unless_zero (eqb i 0) WindowUpdateOnReset)

-- ---- the connection

pub connection-kept : (id : ℕ) (s : State) (t : Tally) (i : ℕ) → 1 ≤ id → Agreement s.book id s t → Kept s.book id (record t { granted = t.granted + i }) (makes s (connection_window s.core i))
unfolding connection_window
connection-kept id s t i pos_id x =
    let u : Tally = record t { granted = t.granted + i } in
    let core : ConnectionState = record s.core { send = s.core.send +ℤ pos i } in
    either-kept s.book id u s (eqb i 0) (ConnectionError ConnectionIncrementZero) _ tt
    (either-kept s.book id u s (is_above_max (s.core.send +ℤ pos i)) (ConnectionError ConnectionWindowOverflow) (Continues (only_counts core)) tt
    (stays s.book id u s core NoConnectionFrame pos_id (record {
      running = x.running;
      same_book = x.same_book;
      same_window = x.same_window;
      same_frame = x.same_frame;
      some_frame = x.some_frame;
      send_is = let e = x.send_is in omega (arith, ints);
      within = let w = x.within in omega arith;
      agreed = x.agreed;
      bodies = x.bodies;
      ordered = x.ordered;
      idle = x.idle;
      of_block = x.of_block;
    })))
