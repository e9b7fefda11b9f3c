-- Field blocks keep the tests: the request that a block ends is the one whose body the tally takes as promised.
use Rattle.std.proofs.Common.{◌≡◌, ℕ, ◌+◌, ◌<◌, ◌≤◌, Bool, true, false, cond, not, List, [], ◌∷◌, length, refl, sym, ap, subst, arith, eqb, Option, Some, None}
use Rattle.std.proofs.lemmas.Bool.{eqb-true, false≢true}
use Rattle.std.specs.Option.{is_some}
use Rattle.std.specs.Prelude.{nat_lt}
use Rattle.h2_spec.specs.declared.causes.Cause.TheVariants.{HeadersAfterEndStream}
use Rattle.h2_spec.specs.declared.connection.BlockView.{BlockView}
use Rattle.h2_spec.specs.declared.connection.ConnectionState.{ConnectionState}
use Rattle.h2_spec.specs.declared.connection.Purpose.{Purpose}
use Rattle.h2_spec.specs.declared.connection.Purpose.TheVariants.{Request, Trailers, Closed, TableOnly}
use Rattle.h2_spec.specs.declared.ignored.Ignored.TheVariants.{TableOnlyBlock}
use Rattle.h2_spec.specs.declared.reactions.Change.{Change}
use Rattle.h2_spec.specs.declared.reactions.ConnectionFrame.TheVariants.{NoConnectionFrame}
use Rattle.h2_spec.specs.declared.reactions.BlockSummary.{BlockSummary}
use Rattle.h2_spec.specs.declared.reactions.StreamOutcome.{StreamOutcome}
use Rattle.h2_spec.specs.declared.streams.Stream.{Stream}
use Rattle.h2_spec.specs.Hpack.Field.{Field}
use Rattle.h2_spec.specs.Hpack.DynamicTable.{Table}
use Rattle.h2_spec.specs.Hpack.Block.{Decoded, Outcome, Unfinished, Faulty, list_size}
use Rattle.h2_spec.specs.Requests.Request.{trailers_fault}
use Rattle.h2_spec.specs.Requests.Answer.{Entry, picked}
use Rattle.h2_spec.specs.Stream.{stream_at, octets_waiting, live_count, put}
use Rattle.h2_spec.specs.State.{State, OpenBlock, Decoding}
use Rattle.h2_spec.specs.Change.{only_counts, with_outcome, stream_error}
use Rattle.h2_spec.specs.Requests.Headers.{FrameEffect, Breaks, request_summary, new_stream, request_outcome, trailers_outcome, block_ends, fragment_decoded, decoded_with, fragment, fragment_ignored}
use Rattle.h2_spec.specs.Effect.{body_length}
use Rattle.h2_spec_laws.specs.Grants.{StreamTally, Tally, When, with_tally_on, body_promised, with_fields, fields_at_end}
use Rattle.h2_spec_laws.specs.Order.{Rise}
use Rattle.h2_spec_laws.proofs.grants.Agreement.{Fits, IsRecorded, IsBlock, FitsBlock, Agreement}
use Rattle.h2_spec_laws.proofs.grants.Turns.{Proper, Good, just_asked, error-proper, error-good, Uncut-live, trailers_turn-proper, trailers_turn-good, request_turn-proper, request_turn-good}
use Rattle.h2_spec_laws.proofs.grants.Records.{at-id, put-last}
use Rattle.h2_spec_laws.proofs.grants.Rules.{Moves, Kept, because, stays, outcome-kept, record-kept}

-- ---- what is promised

promised-same : (book : List Entry) (o : Option (List ℕ)) (fs : Option (List Field)) → is_some o ≡ true → body_promised book o fs ≡ o
promised-same book (Some body) fs e = refl
promised-same book None fs e = absurd (false≢true e)

no_fields : (book : List Entry) (o : Option (List ℕ)) → body_promised book o None ≡ o
no_fields book (Some body) = refl
no_fields book None = refl

-- a tally that stays
on_stream-same : (id j : ℕ) (t : Tally) (n : StreamTally) → (eqb j id ≡ true → n ≡ t.on_stream) → with_tally_on id j t n ≡ t
on_stream-same id j t n h = at (eqb j id) refl
  where
    at : (b : Bool) → eqb j id ≡ b → record t { on_stream = cond b n t.on_stream } ≡ t
    at true e = ap (λ m. record t { on_stream = m }) (h e)
    at false e = refl

whenever : (P : Type 0) (b : Bool) → b ≡ true → When b P → P
whenever P true e p = p
whenever P false e p = absurd (false≢true e)

-- ---- a request

-- m: the tally with the body that its fields promise
request-kept : (id : ℕ) (s : State) (t : Tally) (j : ℕ) (ends : Bool) (fields : List Field) → 1 ≤ id → Agreement s.book id s t → s.block ≡ None → s.core.last < j →
    Moves s.book id (with_tally_on id j t (with_fields s.book t.on_stream (Some fields))) s (block_ends s j ends fields Request)
unfolding octets_waiting
request-kept id s t j ends fields pos_id x none above =
    outcome-kept id s t (cond (eqb j id) asked t.on_stream) (only_counts core) st outcome pos_id agrees none proper (omega arith, tt) ordered good (λ e. rw e refl) (λ e h. absurd (omega (arith, eqb-true j id e)))
  where
    f : BlockSummary
    f = request_summary s.book fields

    st : Stream
    st = new_stream s.core j f

    outcome : StreamOutcome
    outcome = request_outcome s.config (live_count s.streams) (body_length s.book st) (picked s.book f.pick).early s.core j ends f

    core : ConnectionState
    core = record s.core { last = j }

    asked : StreamTally
    asked = with_fields s.book t.on_stream (Some fields)

    proper : Proper s.book st outcome
    proper = request_turn-proper s.book s.config (live_count s.streams) s.core j ends f

    ordered : Rise 0 j (put outcome.stream s.streams)
    ordered = subst (λ i. Rise 0 i (put outcome.stream s.streams)) proper.same_id (put-last 0 s.core.last outcome.stream s.streams (rw proper.same_id above) x.ordered)

    raised : (low high : ℕ) (sts : List Stream) → high < j → Rise low high sts → Rise low j sts
    raised low high [] h r = omega arith
    raised low high (y ∷ sts) h r = (r.0, raised y.id high sts h r.1)

    agrees : Agreement s.book id (record s { core = core }) t
    agrees = record {
      running = x.running;
      same_book = x.same_book;
      same_window = x.same_window;
      same_frame = x.same_frame;
      some_frame = x.some_frame;
      send_is = x.send_is;
      within = x.within;
      agreed = x.agreed;
      bodies = x.bodies;
      ordered = raised 0 s.core.last s.streams above x.ordered;
      idle = λ h. x.idle (omega arith);
      of_block = subst (λ o. FitsBlock id j s.streams o t.on_stream) (sym none) tt;
    }

    good : eqb j id ≡ true → Good s.book t.window (cond (eqb j id) asked t.on_stream) outcome
    good e =
        let blank = (x.idle (omega (arith, eqb-true j id e))).0 in
        let m : StreamTally = just_asked (picked s.book f.pick).body in
        let same : asked ≡ m = ap (λ n. with_fields s.book n (Some fields)) blank in
        rw (e, same) (subst (λ w. Good s.book w m outcome) x.same_window (request_turn-good s.book s.config (live_count s.streams) s.core j ends f))

-- ---- the end of a block

block-kept : (id : ℕ) (s : State) (t : Tally) (j : ℕ) (ends : Bool) (fields : List Field) (purpose : Purpose) → 1 ≤ id → Agreement s.book id s t → s.block ≡ None → IsBlock id s.core.last s.streams j purpose t.on_stream →
    Moves s.book id (with_tally_on id j t (with_fields s.book t.on_stream (Some fields))) s (block_ends s j ends fields purpose)
block-kept id s t j ends fields purpose pos_id x none b = at purpose b
  where
    st : Stream
    st = stream_at s.core.last s.streams j

    -- what was promised is promised
    promised : (c : Change) → (eqb j id ≡ true → is_some t.on_stream.promised ≡ true) → Moves s.book id t s c → Moves s.book id (with_tally_on id j t (with_fields s.book t.on_stream (Some fields))) s c
    promised c h = subst (λ u. Moves s.book id u s c) (sym (on_stream-same id j t (with_fields s.book t.on_stream (Some fields)) (λ e. ap (λ o. record t.on_stream { promised = o }) (promised-same s.book t.on_stream.promised (Some fields) (h e)))))

    on_record : (outcome : StreamOutcome) → IsRecorded st.kind → Proper s.book st outcome → (eqb j id ≡ true → Fits s.book t.window st t.on_stream → Good s.book t.window t.on_stream outcome) → Moves s.book id t s (with_outcome (only_counts s.core) outcome)
    on_record outcome r proper good = record-kept id s t t.on_stream (only_counts s.core) j outcome pos_id x none r proper good (λ e. refl)

    at : (purpose : Purpose) → IsBlock id s.core.last s.streams j purpose t.on_stream → Moves s.book id (with_tally_on id j t (with_fields s.book t.on_stream (Some fields))) s (block_ends s j ends fields purpose)
    at Request b = request-kept id s t j ends fields pos_id x none b.0
    at Trailers b =
        let for : (e : eqb j id ≡ true) → (is_some t.on_stream.promised ≡ true) × (t.on_stream.reset ≡ false) = λ e. whenever _ (eqb j id) e b.1 in
        promised _ (λ e. (for e).0)
        (on_record (trailers_outcome (list_size fields) (trailers_fault fields) (body_length s.book st) ends st) b.0
        (trailers_turn-proper s.book (list_size fields) (trailers_fault fields) ends st)
        (λ e f. trailers_turn-good s.book t.window t.on_stream (list_size fields) (trailers_fault fields) ends st f (for e).1))
    at Closed b =
        let for : (e : eqb j id ≡ true) → (is_some t.on_stream.promised ≡ true) × (t.on_stream.reset ≡ false) = λ e. whenever _ (eqb j id) e b.1 in
        let same : st.id ≡ j = at-id s.core.last s.streams j in
        promised _ (λ e. (for e).0)
        (on_record (stream_error j HeadersAfterEndStream) b.0
        (subst (λ i. Proper s.book st (stream_error i HeadersAfterEndStream)) same (error-proper s.book st HeadersAfterEndStream))
        (λ e f. error-good s.book t.window t.on_stream j HeadersAfterEndStream (Uncut-live st.kind (picked s.book st.pick).body t.window st.numbers.send st.numbers.body_remaining t.on_stream f (for e).1)))
    at TableOnly b = promised _ (λ e. whenever _ (eqb j id) e b.1) (because s.book id t s (only_counts s.core) (Some TableOnlyBlock) (stays s.book id t s s.core NoConnectionFrame pos_id x))

-- ---- a fragment

pub fragment-kept : (id : ℕ) (s : State) (t : Tally) (b : BlockView) (d : Decoding) (octets : List ℕ) (ends : Bool) → 1 ≤ id → Agreement s.book id s t → IsBlock id s.core.last s.streams b.stream d.purpose t.on_stream →
    Kept s.book id (with_tally_on id b.stream t (with_fields s.book t.on_stream (fields_at_end s (Some d) octets ends))) (fragment s b d octets ends)
fragment-kept id s t b d octets ends pos_id x of = over _ (cases ends)
  where
    c : BlockView
    c = record b { octets = b.octets + length octets }

    r : Decoded
    r = decoded_with s d octets

    either : (u : Tally) (z : Bool) (e f : FrameEffect) → Kept s.book id u e → Kept s.book id u f → Kept s.book id u (cond z e f)
    either u true e f h g = h
    either u false e f h g = g

    over : (u : Tally) → Kept s.book id u (fragment_decoded s c d.purpose ends r) → Kept s.book id u (fragment s b d octets ends)
    over u k = either u (nat_lt 65536 (b.octets + length octets)) (Breaks _) (fragment_decoded s c d.purpose ends r) tt k

    -- the same state with another table and block
    with_table : (table : Table) (o : Option OpenBlock) → FitsBlock id s.core.last s.streams o t.on_stream → Agreement s.book id (record s { table = table; block = o }) t
    with_table table o h = record {
      running = x.running;
      same_book = x.same_book;
      same_window = x.same_window;
      same_frame = x.same_frame;
      some_frame = x.some_frame;
      send_is = x.send_is;
      within = x.within;
      agreed = x.agreed;
      bodies = x.bodies;
      ordered = x.ordered;
      idle = x.idle;
      of_block = h;
    }

    more : (o : Outcome) → Kept s.book id t (fragment_decoded s c d.purpose false (record r { outcome = o }))
    more (Faulty fault) = tt
    more (Unfinished rest) = because s.book id t _ (only_counts s.core) (fragment_ignored d.purpose) (stays s.book id t _ s.core NoConnectionFrame pos_id (with_table r.progress.table _ of))

    last : (o : Outcome) → Kept s.book id (with_tally_on id b.stream t (with_fields s.book t.on_stream (Some r.progress.fields))) (fragment_decoded s c d.purpose true (record r { outcome = o }))
    last (Faulty fault) = tt
    last (Unfinished rest) =
        either _ (not (eqb (length rest) 0)) (Breaks _) _ tt
        (either _ r.progress.due (Breaks _) _ tt
        (block-kept id (record s { table = r.progress.table; block = None }) t b.stream b.ends r.progress.fields d.purpose pos_id (with_table r.progress.table None tt) refl of))

    cases : (e : Bool) → Kept s.book id (with_tally_on id b.stream t (with_fields s.book t.on_stream (fields_at_end s (Some d) octets e))) (fragment_decoded s c d.purpose e r)
    cases false = subst (λ u. Kept s.book id u (fragment_decoded s c d.purpose false r)) (sym (on_stream-same id b.stream t _ (λ e. ap (λ o. record t.on_stream { promised = o }) (no_fields s.book t.on_stream.promised)))) (more r.outcome)
    cases true = last r.outcome
