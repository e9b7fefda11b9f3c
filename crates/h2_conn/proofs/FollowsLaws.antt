-- An item leaves the records of streams that have ended as they are.
use Rattle.std.proofs.Common.{◌≡◌, ◌∙◌, ℕ, ◌+◌, ◌-◌, ◌<◌, ◌%◌, Bool, true, false, cond, ◌&&◌, ◌||◌, not, List, [], ◌∷◌, ◌++◌, length, map, Option, Some, None, Result, Ok, Err, refl, sym, ap, subst, arith, eqb, ltb, append_assoc, true≢false}
use Rattle.std.specs.Prelude.{nat_lt, pos, ◌+ℤ◌, ℤ, ◌-ℤ◌, int_lt}
use Rattle.std.specs.List.{filter}
use Rattle.std.proofs.lemmas.Bool.{eqb-true, eq-eqb, both_ways, ltb-true}
use Rattle.std.proofs.lemmas.List.{append-nil}
use Rattle.h2_spec.specs.declared.connection.BlockView.{BlockView}
use Rattle.h2_spec.specs.declared.connection.ConnectionState.{ConnectionState}
use Rattle.h2_spec.specs.declared.connection.Phase.{Phase}
use Rattle.h2_spec.specs.declared.connection.Phase.TheVariants as phase
use Rattle.h2_spec.specs.declared.connection.Purpose.{Purpose}
use Rattle.h2_spec.specs.declared.connection.Purpose.TheVariants.{Request, Trailers, Closed, TableOnly}
use Rattle.h2_spec.specs.declared.causes.Cause.{Cause}
use Rattle.h2_spec.specs.declared.causes.Cause.TheVariants.{BlockTooLarge, BlockTruncated, SizeUpdateMissing, ConnectionIncrementZero, ConnectionWindowExceeded, ConnectionWindowOverflow, DataAfterEndStream, HeadersOnEven}
use Rattle.h2_spec.specs.declared.flow.Settings.{Settings}
use Rattle.h2_spec.specs.declared.frames.Head.{Head}
use Rattle.h2_spec.specs.declared.reactions.BlockSummary.{BlockSummary}
use Rattle.h2_spec.specs.declared.reactions.Change.{Change}
use Rattle.h2_spec.specs.declared.reactions.ConnectionFrame.TheVariants.{PingAck}
use Rattle.h2_spec.specs.declared.reactions.Reaction.{Reaction}
use Rattle.h2_spec.specs.declared.reactions.Reaction.TheVariants.{ConnectionError, Continues}
use Rattle.h2_spec.specs.declared.reactions.ReceivedData.{ReceivedData}
use Rattle.h2_spec.specs.declared.reactions.RecordUpdate.{RecordUpdate}
use Rattle.h2_spec.specs.declared.reactions.RecordUpdate.TheVariants.{Unchanged, Put, Shift, Receive}
use Rattle.h2_spec.specs.declared.ignored.Ignored.TheVariants.{DataOnReset, PingAcknowledgement, SecondAcknowledgement}
use Rattle.h2_spec.specs.declared.reactions.StreamOutcome.{StreamOutcome}
use Rattle.h2_spec.specs.declared.streams.StreamState.{StreamState}
use Rattle.h2_spec.specs.declared.streams.StreamState.TheVariants.{Idle, Skipped, BothOpen, HalfRemote, HalfLocal, Ended, PeerReset, WeReset}
use Rattle.h2_spec.specs.declared.streams.Stream.{Stream}
use Rattle.h2_spec.specs.Requests.Answer.{Entry}
use Rattle.h2_spec.specs.Hpack.Block.{Decoded, Outcome, Unfinished, Faulty, list_size}
use Rattle.h2_spec.specs.Change.{after, follows_initial_window, ignoring, made, moved_by, only_counts, received, received_one, shifted, shifted_one, stream_error, updated_streams, with_outcome, with_recv, with_send}
use Rattle.h2_spec.specs.Checks.{refusal}
use Rattle.h2_spec.specs.Data.{counted, owed_on_connection, owed_as, if_within, data_taken, data_refused, data_counted, data_outcome}
use Rattle.h2_spec.specs.Hpack.DynamicTable.{Table}
use Rattle.h2_spec.specs.Effect.{block_stream, body_length, checked_effect, concluded, data_rule, effect, frame_effect, incoming, item_effect, ignore, on_data, on_headers, on_reset, on_window, part_effect, reset_outcome, reset_rule, window_rule}
use Rattle.h2_spec.specs.Hpack.Field.{Field}
use Rattle.h2_spec.specs.Frames.Frame.{Item, Preface, BadPreface, WholeFrame, Oversize}
use Rattle.h2_spec.specs.Frames.FrameType.{ACK, END_HEADERS, has}
use Rattle.h2_spec.specs.Requests.Headers.{FrameEffect, Breaks, Makes, block_ends, block_opens, continued, continuation, decoded_with, fragment, fragment_decoded, fragment_read, fresh_block, fresh_decoding, makes, max_block, request_summary}
use Rattle.h2_spec.specs.Frames.Payload.{HeadersPart, Part, OfData, OfHeaders, OfPriority, OfRstStream, OfSettings, OfSettingsAck, OfPushPromise, OfPing, OfGoaway, OfWindowUpdate, OfContinuation, OfUnknown, part_of}
use Rattle.h2_spec.specs.ReactionTable.{Error, Rule, data_cell, headers_cell, reset_cell, run_cell, window_cell}
use Rattle.h2_spec.specs.SendPending.{after_sending, all_after_sending, allowance, send_pending}
use Rattle.h2_spec.specs.SettingsFrame.{comes_into_force, settings_applied, settings_rule, settings_taken}
use Rattle.h2_spec.specs.State.{Decoding, OpenBlock, State, configured}
use Rattle.h2_spec.specs.Stream.{AreRising, Records, id_of, is_live, kind_of, live_count, not_live, octets_waiting, put, record_of, recorded, stream_at}
use Rattle.h2_spec.specs.Trace.{step, then_sent}
use Rattle.h2_spec.specs.Window.{is_above_max, given_back, sendable}
use Rattle.h2_spec.specs.WindowUpdate.{connection_window, window_outcome}
use Rattle.h2_spec_laws.proofs.grants.Agreement.{IsRecorded}
use Rattle.h2_spec_laws.proofs.grants.Records.{at-found, at-id}
use Rattle.h2_spec_laws.proofs.grants.Turns.{Proper, data_turn-proper, error-proper, reset_turn-proper, request_turn-proper, trailers_turn-proper, window_turn-proper}
use Rattle.h2_conn_rules.specs.Sound.{AreSound, InForce, IsSoundState, in_force, is_recorded}
use Rattle.h2_streams.specs.Kept.{Rise}
use Rattle.h2_streams.specs.Rebuilt.{is_live_or, is_this, rebuilt}
use Rattle.h2_streams.proofs.RebuiltLaws.{IsContinued, continues-of, filter-same, rebuilt-is, rise-front}
use Rattle.h2_conn.specs.Blocks.{IsOpenAt, IsOpenFor}
use Rattle.h2_conn.specs.Follows.{Follows, Keeps, can_change, ends_in_reset, is_reset_by, resets_in}
use Rattle.h2_conn_send.proofs.AboveLaws.{id-after_sending, found_within}
use Rattle.h2_conn_rules.proofs.SoundLaws.{peer-open-live}

-- ---- one record in a list

found-id : (j : ℕ) (sts : List Stream) (st : Stream) → record_of sts j ≡ Some st → st.id ≡ j
found-id j [] st e = absurd (cc)
found-id j (x ∷ sts) st e = at (λ g. found-id j sts st g) (eqb x.id j) refl e
  where
    at : (record_of sts j ≡ Some st → st.id ≡ j) → (b : Bool) → eqb x.id j ≡ b → cond b (Some x) (record_of sts j) ≡ Some st → st.id ≡ j
    at more true g e = let same : x ≡ st = cc in ap id_of (sym same) ∙ eqb-true x.id j g
    at more false g e = more e

not-live : (block : Option OpenBlock) (st : Stream) → can_change block st ≡ false → is_live st.kind ≡ false
not-live block st h = at (is_live st.kind) h
  where
    at : (b : Bool) → (b || is_reset_by st.id block) ≡ false → b ≡ false
    at true h = absurd (true≢false h)
    at false h = refl

not-reset : (block : Option OpenBlock) (st : Stream) → can_change block st ≡ false → is_reset_by st.id block ≡ false
not-reset block st h = at (is_live st.kind) h
  where
    at : (b : Bool) → (b || is_reset_by st.id block) ≡ false → is_reset_by st.id block ≡ false
    at true h = absurd (true≢false h)
    at false h = h

settled-of : (block : Option OpenBlock) (st : Stream) → is_live st.kind ≡ false → is_reset_by st.id block ≡ false → can_change block st ≡ false
settled-of block st a b = rw (a, b) refl

-- ---- lists

keeps-refl : (block : Option OpenBlock) (xs : List Stream) → Keeps block xs xs
keeps-refl block xs = record { more = []; ids = sym (append-nil (map id_of xs)); same = λ id st e h. e }

put-ids : (y : Stream) (xs : List Stream) → (more : List ℕ) × (map id_of (put y xs) ≡ map id_of xs ++ more)
put-ids y [] = (y.id ∷ [], refl)
put-ids y (x ∷ xs) = at (eqb x.id y.id) refl (put-ids y xs)
  where
    at : (b : Bool) → eqb x.id y.id ≡ b → ((more : List ℕ) × (map id_of (put y xs) ≡ map id_of xs ++ more)) → (more : List ℕ) × (map id_of (cond b (y ∷ xs) (x ∷ put y xs)) ≡ x.id ∷ map id_of xs ++ more)
    at true g rest = ([], ap (λ i. i ∷ map id_of xs) (sym (eqb-true x.id y.id g)) ∙ ap (λ is. x.id ∷ is) (sym (append-nil (map id_of xs))))
    at false g rest = (rest.0, ap (λ is. x.id ∷ is) rest.1)

put-found : (y : Stream) (xs : List Stream) (id : ℕ) (st : Stream) → eqb y.id id ≡ false → record_of xs id ≡ Some st → record_of (put y xs) id ≡ Some st
put-found y [] id st d e = absurd (cc)
put-found y (x ∷ xs) id st d e = at (λ g. put-found y xs id st d g) (eqb x.id y.id) refl (eqb x.id id) refl e
  where
    at : (record_of xs id ≡ Some st → record_of (put y xs) id ≡ Some st) → (b : Bool) → eqb x.id y.id ≡ b → (c : Bool) → eqb x.id id ≡ c → cond c (Some x) (record_of xs id) ≡ Some st
        → record_of (cond b (y ∷ xs) (x ∷ put y xs)) id ≡ Some st
    at more true g true k e = absurd (both_ways (eqb y.id id) d (subst (λ i. eqb i id ≡ true) (eqb-true x.id y.id g) k))
    at more true g false k e = rw d e
    at more false g true k e = rw k e
    at more false g false k e = rw k (more e)

keeps-put : (block : Option OpenBlock) (y : Stream) (xs : List Stream) → ((st : Stream) → record_of xs y.id ≡ Some st → can_change block st ≡ false → ⊥) → Keeps block xs (put y xs)
keeps-put block y xs h =
    let ids = put-ids y xs in
    record { more = ids.0; ids = ids.1; same = λ id st e c. at id st e c (eqb y.id id) refl }
  where
    at : (id : ℕ) (st : Stream) → record_of xs id ≡ Some st → can_change block st ≡ false → (b : Bool) → eqb y.id id ≡ b → record_of (put y xs) id ≡ Some st
    at id st e c true g = absurd (h st (subst (λ i. record_of xs i ≡ Some st) (sym (eqb-true y.id id g)) e) c)
    at id st e c false g = put-found y xs id st g e

-- a function of each record that leaves identifiers and records that are not live
stays-closed : (f : Stream → Stream) → ((st : Stream) → (f st).id ≡ st.id) → ((st : Stream) → is_live st.kind ≡ false → f st ≡ st) → (xs : List Stream) (id : ℕ) (st : Stream)
    → record_of xs id ≡ Some st → is_live st.kind ≡ false → record_of (map f xs) id ≡ Some st
stays-closed f ids same [] id st e h = absurd (cc)
stays-closed f ids same (x ∷ xs) id st e h = at (λ g. stays-closed f ids same xs id st g h) (eqb x.id id) refl e
  where
    at : (record_of xs id ≡ Some st → record_of (map f xs) id ≡ Some st) → (b : Bool) → eqb x.id id ≡ b → cond b (Some x) (record_of xs id) ≡ Some st → cond (eqb (f x).id id) (Some (f x)) (record_of (map f xs) id) ≡ Some st
    at more true g e =
        let one : x ≡ st = cc in
        ap (λ (t : Bool). cond t (Some (f x)) (record_of (map f xs) id)) (ap (λ (i : ℕ). eqb i id) (ids x) ∙ g) ∙ ap (λ (y : Stream). Some (f y)) one ∙ ap (λ (y : Stream). Some y) (same st h)
    at more false g e = ap (λ (t : Bool). cond t (Some (f x)) (record_of (map f xs) id)) (ap (λ (i : ℕ). eqb i id) (ids x) ∙ g) ∙ more e

map-ids : (f : Stream → Stream) → ((st : Stream) → (f st).id ≡ st.id) → (xs : List Stream) → map id_of (map f xs) ≡ map id_of xs
map-ids f ids [] = refl
map-ids f ids (x ∷ xs) = rw (ids x, map-ids f ids xs) refl

shifted-id : (d : ℤ) (st : Stream) → (shifted_one d st).id ≡ st.id
shifted-id d st = at (follows_initial_window st.kind)
  where
    at : (b : Bool) → (cond b (with_send st (st.numbers.send +ℤ d)) st).id ≡ st.id
    at true = refl
    at false = refl

follows-live : (k : StreamState) → is_live k ≡ false → follows_initial_window k ≡ false
follows-live Idle h = refl
follows-live Skipped h = refl
follows-live BothOpen h = absurd (true≢false h)
follows-live HalfRemote h = absurd (true≢false h)
follows-live HalfLocal h = refl
follows-live Ended h = refl
follows-live PeerReset h = refl
follows-live WeReset h = refl

shifted-same : (d : ℤ) (st : Stream) → is_live st.kind ≡ false → shifted_one d st ≡ st
shifted-same d st h = rw (follows-live st.kind h) refl

keeps-shifted : (block : Option OpenBlock) (d : ℤ) (xs : List Stream) → Keeps block xs (shifted d xs)
unfolding shifted
keeps-shifted block d xs = record {
  more = [];
  ids = map-ids (shifted_one d) (shifted-id d) xs ∙ sym (append-nil (map id_of xs));
  same = λ id st e h. stays-closed (shifted_one d) (shifted-id d) (shifted-same d) xs id st e (not-live block st h);
}

received-id : (d : ℤ) (st : Stream) → (received_one d st).id ≡ st.id
received-id d st = at (is_live st.kind)
  where
    at : (b : Bool) → (cond b (with_recv st (st.numbers.recv +ℤ d)) st).id ≡ st.id
    at true = refl
    at false = refl

received-same : (d : ℤ) (st : Stream) → is_live st.kind ≡ false → received_one d st ≡ st
received-same d st h = rw h refl

keeps-received : (block : Option OpenBlock) (d : ℤ) (xs : List Stream) → Keeps block xs (received d xs)
unfolding received
keeps-received block d xs = record {
  more = [];
  ids = map-ids (received_one d) (received-id d) xs ∙ sym (append-nil (map id_of xs));
  same = λ id st e h. stays-closed (received_one d) (received-id d) (received-same d) xs id st e (not-live block st h);
}

-- ---- sending

nothing-allowed : (w : ℕ) (st : Stream) → is_live st.kind ≡ false → allowance w st ≡ 0
unfolding allowance octets_waiting
nothing-allowed w st h = rw h (omega arith)

nothing-sent : (st : Stream) → after_sending 0 st ≡ st
unfolding after_sending
nothing-sent st = refl

quiet : (w : ℕ) (st : Stream) → is_live st.kind ≡ false → after_sending (allowance w st) st ≡ st
quiet w st h = ap (λ (n : ℕ). after_sending n st) (nothing-allowed w st h) ∙ nothing-sent st

sent-ids : (w : ℕ) (xs : List Stream) → map id_of (all_after_sending w xs) ≡ map id_of xs
unfolding all_after_sending
sent-ids w [] = refl
sent-ids w (x ∷ xs) = rw (id-after_sending (allowance w x) x, sent-ids (w - allowance w x) xs) refl

sent-found : (w : ℕ) (xs : List Stream) (id : ℕ) (st : Stream) → record_of xs id ≡ Some st → is_live st.kind ≡ false → record_of (all_after_sending w xs) id ≡ Some st
unfolding all_after_sending
sent-found w [] id st e h = absurd (cc)
sent-found w (x ∷ xs) id st e h = at (λ g. sent-found (w - allowance w x) xs id st g h) (eqb x.id id) refl e
  where
    at : (record_of xs id ≡ Some st → record_of (all_after_sending (w - allowance w x) xs) id ≡ Some st) → (b : Bool) → eqb x.id id ≡ b → cond b (Some x) (record_of xs id) ≡ Some st
        → cond (eqb (after_sending (allowance w x) x).id id) (Some (after_sending (allowance w x) x)) (record_of (all_after_sending (w - allowance w x) xs) id) ≡ Some st
    at more true g e = let one : x ≡ st = cc in rw (id-after_sending (allowance w x) x, g) (ap (λ (y : Stream). Some (after_sending (allowance w y) y)) one ∙ ap (λ (y : Stream). Some y) (quiet w st h))
    at more false g e = rw (id-after_sending (allowance w x) x, g) (more e)

sending-follows : (s : State) → Follows s (send_pending s).state
unfolding send_pending
sending-follows s = record {
  book = refl;
  config = refl;
  records = record {
    more = [];
    ids = sent-ids (sendable s.core.send) s.streams ∙ sym (append-nil (map id_of s.streams));
    same = λ id st e h. sent-found (sendable s.core.send) s.streams id st e (not-live s.block st h);
  };
  settled = λ id st e h. h;
}

-- ---- one state after another

pub follows-refl : (s : State) → Follows s s
follows-refl s = record { book = refl; config = refl; records = keeps-refl s.block s.streams; settled = λ id st e h. h }

pub follows-then : (s t u : State) → Follows s t → Follows t u → Follows s u
follows-then s t u x y = record {
  book = y.book ∙ x.book;
  config = y.config ∙ x.config;
  records = record {
    more = x.records.more ++ y.records.more;
    ids = y.records.ids ∙ ap (λ is. is ++ y.records.more) x.records.ids ∙ append_assoc (map id_of s.streams) x.records.more y.records.more;
    same = λ id st e h. y.records.same id st (x.records.same id st e h) (x.settled id st e h);
  };
  settled = λ id st e h. y.settled id st (x.records.same id st e h) (x.settled id st e h);
}

-- ---- changes

-- a change of the records puts none that can't change
abbrev MayUpdate : State → RecordUpdate → Type 0
MayUpdate s Unchanged = Unit {0}
MayUpdate s (Shift from to) = Unit {0}
MayUpdate s (Receive from to) = Unit {0}
MayUpdate s (Put y) = (st : Stream) → record_of s.streams y.id ≡ Some st → can_change s.block st ≡ false → ⊥

updated-keeps : (s : State) (u : RecordUpdate) → MayUpdate s u → Keeps s.block s.streams (updated_streams u s.streams)
updated-keeps s Unchanged h = keeps-refl s.block s.streams
updated-keeps s (Shift from to) h = keeps-shifted s.block (moved_by from to) s.streams
updated-keeps s (Receive from to) h = keeps-received s.block (moved_by from to) s.streams
updated-keeps s (Put y) h = keeps-put s.block y s.streams h

-- the block after an item resets no stream whose record can't change
abbrev IsOpenedFor : State → Option OpenBlock → Type 0
IsOpenedFor s block = (id : ℕ) (st : Stream) → record_of s.streams id ≡ Some st → can_change s.block st ≡ false → is_reset_by st.id block ≡ false

-- a state with another block and table, and a change there
pub record MayChange (s t : State) (c : Change) : Type 0 where
  book : t.book ≡ s.book
  config : t.config ≡ s.config
  same : t.streams ≡ s.streams
  block : IsOpenedFor s t.block
  update : MayUpdate s c.record_update

-- what a frame results in
abbrev MayResult : State → FrameEffect → Type 0
MayResult s (Breaks code) = Unit {0}
MayResult s (Makes t c) = MayChange s t c

-- nothing is known of a block that is decoded no more
shown-resets : (id : ℕ) (b : Option OpenBlock) → is_reset_by id (Rattle.h2_spec.specs.Change.only_shown b) ≡ false
shown-resets id None = refl
shown-resets id (Some b) = refl

made-follows : (s t : State) (c : Change) → MayChange s t c → Follows s (made t c).state
made-follows s t c x = record {
  book = x.book;
  config = x.config;
  records = subst (λ xs. Keeps s.block s.streams (updated_streams c.record_update xs)) (sym x.same) (updated-keeps s c.record_update x.update);
  settled = λ id st e h. settled-of t.block st (not-live s.block st h) (x.block id st e h);
}

result-follows : (s : State) (e : FrameEffect) → MayResult s e → Follows s (concluded s e).state
result-follows s (Breaks code) x = record {
  book = refl;
  config = refl;
  records = keeps-refl s.block s.streams;
  settled = λ id st e h. settled-of _ st (not-live s.block st h) (shown-resets st.id s.block);
}
result-follows s (Makes t c) x = made-follows s t c x

-- ---- the rules, where the block stays

same-block : (s : State) → IsOpenedFor s s.block
same-block s = λ id st e h. not-reset s.block st h

stays : (s : State) (c : Change) → MayUpdate s c.record_update → MayResult s (Makes s c)
stays s c u = record { book = refl; config = refl; same = refl; block = same-block s; update = u }

either : (s : State) (b : Bool) (x y : Reaction) → MayResult s (makes s x) → MayResult s (makes s y) → MayResult s (makes s (cond b x y))
either s true x y h g = h
either s false x y h g = g

recorded-live : (k : StreamState) → is_live k ≡ true → IsRecorded k
recorded-live Idle h = absurd (true≢false (sym h))
recorded-live Skipped h = absurd (true≢false (sym h))
recorded-live BothOpen h = tt
recorded-live HalfRemote h = tt
recorded-live HalfLocal h = tt
recorded-live Ended h = tt
recorded-live PeerReset h = tt
recorded-live WeReset h = tt

-- the record of a live stream may be put
live-update : (s : State) (j : ℕ) (y : Stream) → is_live (stream_at s.core.last s.streams j).kind ≡ true → y.id ≡ (stream_at s.core.last s.streams j).id → MayUpdate s (Put y)
live-update s j y live same = λ st e h.
    let found : record_of s.streams j ≡ Some (stream_at s.core.last s.streams j) = at-found s.core.last s.streams j (recorded-live (stream_at s.core.last s.streams j).kind live) in
    let own : record_of s.streams j ≡ Some st = subst (λ i. record_of s.streams i ≡ Some st) (same ∙ at-id s.core.last s.streams j) e in
    let one : st ≡ stream_at s.core.last s.streams j = cc in
    true≢false (sym live ∙ ap (λ (x : Stream). is_live x.kind) (sym one) ∙ not-live s.block st h)

outcome-update : (s : State) (c : Change) (j : ℕ) (outcome : StreamOutcome) → is_live (stream_at s.core.last s.streams j).kind ≡ true → Proper s.book (stream_at s.core.last s.streams j) outcome
    → MayUpdate s (with_outcome c outcome).record_update
unfolding with_outcome
outcome-update s c j outcome live proper = live-update s j outcome.stream live proper.same_id

within : (s : State) (n : ℕ) (c : Change) → MayUpdate s c.record_update → MayResult s (makes s (if_within s.core n c))
within s n c u = either s (int_lt s.core.recv (pos n)) (ConnectionError ConnectionWindowExceeded) (Continues c) tt (stays s c u)

counted-update : (s : State) (threshold n : ℕ) → MayUpdate s (counted threshold s.core n).record_update
unfolding counted owed_on_connection
counted-update s threshold n = at (given_back threshold (s.core.owed + n))
  where
    core : ConnectionState
    core = record s.core { recv = s.core.recv -ℤ pos n }

    at : (o : Option ℕ) → MayUpdate s (owed_as o core (core.owed + n)).record_update
    at (Some k) = tt
    at None = tt

module _ (s : State) (j : ℕ) where
  abbrev st : Stream
  st = stream_at s.core.last s.streams j

  data-result : (d : ReceivedData) → MayResult s (makes s (on_data s.config s.core (body_length s.book st) d st))
  unfolding on_data data_taken data_refused data_counted
  data-result d = at st.kind refl
    where
      take : is_live st.kind ≡ true → MayResult s (makes s (data_taken s.config s.core (body_length s.book st) d st))
      take l = within s d.octets (with_outcome (counted s.config.credit s.core d.octets) (data_outcome s.config.credit (body_length s.book st) d st))
          (outcome-update s (counted s.config.credit s.core d.octets) j (data_outcome s.config.credit (body_length s.book st) d st) l (data_turn-proper s.book s.config.credit d st))

      refuse : is_live st.kind ≡ true → MayResult s (makes s (data_refused s.config s.core d st DataAfterEndStream))
      refuse l = within s d.octets (with_outcome (counted s.config.credit s.core d.octets) (stream_error st.id DataAfterEndStream))
          (outcome-update s (counted s.config.credit s.core d.octets) j (stream_error st.id DataAfterEndStream) l (error-proper s.book st DataAfterEndStream))

      at : (k : StreamState) → st.kind ≡ k → MayResult s (makes s (run_cell ConnectionError (ignore s.core) (λ rule. data_rule rule s.config s.core (body_length s.book st) d st) (data_cell k)))
      at Idle e = tt
      at Skipped e = tt
      at BothOpen e = take (ap is_live e)
      at HalfRemote e = refuse (ap is_live e)
      at HalfLocal e = take (ap is_live e)
      at Ended e = tt
      at PeerReset e = tt
      at WeReset e = within s d.octets (ignoring DataOnReset (counted s.config.credit s.core d.octets)) (counted-update s s.config.credit d.octets)

  reset-result : MayResult s (makes s (on_reset s.core st))
  unfolding on_reset
  reset-result = at st.kind refl
    where
      live : is_live st.kind ≡ true → MayResult s (makes s (Continues (with_outcome (only_counts s.core) (reset_outcome st))))
      live l = stays s (with_outcome (only_counts s.core) (reset_outcome st)) (outcome-update s (only_counts s.core) j (reset_outcome st) l (reset_turn-proper s.book st))

      at : (k : StreamState) → st.kind ≡ k → MayResult s (makes s (run_cell ConnectionError (ignore s.core) (λ r. reset_rule r s.core st) (reset_cell k)))
      at Idle e = tt
      at Skipped e = stays s _ tt
      at BothOpen e = live (ap is_live e)
      at HalfRemote e = live (ap is_live e)
      at HalfLocal e = live (ap is_live e)
      at Ended e = stays s _ tt
      at PeerReset e = stays s _ tt
      at WeReset e = stays s _ tt

  window-result : (i : ℕ) → MayResult s (makes s (on_window s.core i st))
  unfolding on_window
  window-result i = at st.kind refl
    where
      live : is_live st.kind ≡ true → MayResult s (makes s (Continues (with_outcome (only_counts s.core) (window_outcome i st))))
      live l = stays s (with_outcome (only_counts s.core) (window_outcome i st)) (outcome-update s (only_counts s.core) j (window_outcome i st) l (window_turn-proper s.book i st))

      at : (k : StreamState) → st.kind ≡ k → MayResult s (makes s (run_cell ConnectionError (ignore s.core) (λ r. window_rule r s.core i st) (window_cell (eqb i 0) k)))
      at Idle e = tt
      at Skipped e = stays s _ tt
      at BothOpen e = live (ap is_live e)
      at HalfRemote e = live (ap is_live e)
      at HalfLocal e = live (ap is_live e)
      at Ended e = stays s _ tt
      at PeerReset e = stays s _ tt
      at WeReset e = stays s _ tt

connection-result : (s : State) (i : ℕ) → MayResult s (makes s (connection_window s.core i))
unfolding connection_window
connection-result s i =
    either s (eqb i 0) (ConnectionError ConnectionIncrementZero) _ tt
    (either s (is_above_max (s.core.send +ℤ pos i)) (ConnectionError ConnectionWindowOverflow) _ tt (stays s _ tt))

settings-result : (s : State) (pairs : List (ℕ × ℕ)) → MayResult s (makes s (settings_rule s.streams s.core pairs))
unfolding settings_rule
settings-result s pairs = at (settings_applied s.streams s.core.peer s.core.peer pairs)
  where
    at : (r : Result Settings Cause) → MayResult s (makes s (settings_taken s.core r))
    at (Err code) = tt
    at (Ok peer) = stays s _ tt

-- ---- field blocks

-- the end of a block puts no record that can't change
abbrev MayEnd : State → ℕ → Purpose → Type 0
MayEnd s id Request = (st : Stream) → record_of s.streams id ≡ Some st → can_change s.block st ≡ false → ⊥
MayEnd s id Trailers = is_live (stream_at s.core.last s.streams id).kind ≡ true
MayEnd s id Closed = (st : Stream) → record_of s.streams id ≡ Some st → can_change s.block st ≡ false → ⊥
MayEnd s id TableOnly = Unit {0}

put-same : (s : State) (c : Change) (id : ℕ) (outcome : StreamOutcome) → outcome.stream.id ≡ id → ((st : Stream) → record_of s.streams id ≡ Some st → can_change s.block st ≡ false → ⊥)
    → MayUpdate s (with_outcome c outcome).record_update
unfolding with_outcome
put-same s c id outcome same h = λ st e g. h st (subst (λ i. record_of s.streams i ≡ Some st) same e) g

ends-update : (s : State) (table : Table) (id : ℕ) (ends : Bool) (fields : List Field) (purpose : Purpose) → MayEnd s id purpose → MayUpdate s (block_ends (record s { table = table }) id ends fields purpose).record_update
ends-update s table id ends fields Request h =
    let f : BlockSummary = request_summary s.book fields in
    put-same s _ id _ (request_turn-proper s.book s.config (live_count s.streams) s.core id ends f).same_id h
ends-update s table id ends fields Trailers h = outcome-update s _ id _ h (trailers_turn-proper s.book (list_size fields) _ ends (stream_at s.core.last s.streams id))
ends-update s table id ends fields Closed h = put-same s _ id _ refl h
ends-update s table id ends fields TableOnly h = tt

opened-for : (s : State) (b : BlockView) (fields : List Field) (due : Bool) (rest : List ℕ) (purpose : Purpose) → MayEnd s b.stream purpose
    → IsOpenedFor s (Some (record { shown = b; decoding = Some (record { purpose = purpose; fields = fields; due = due; rest = rest }) }))
opened-for s b fields due rest Request h = λ id st e c. refl
opened-for s b fields due rest Trailers h = λ id st e c. refl
opened-for s b fields due rest TableOnly h = λ id st e c. refl
opened-for s b fields due rest Closed h = λ id st e c. at id st e c (eqb b.stream st.id) refl
  where
    at : (id : ℕ) (st : Stream) → record_of s.streams id ≡ Some st → can_change s.block st ≡ false → (t : Bool) → eqb b.stream st.id ≡ t → (true && t) ≡ false
    at id st e c true g = absurd (h st (subst (λ i. record_of s.streams i ≡ Some st) (sym (eqb-true b.stream st.id g ∙ found-id id s.streams st e)) e) c)
    at id st e c false g = refl

none-opened : (s : State) → IsOpenedFor s None
none-opened s = λ id st e h. refl

read-result : (s : State) (table : Table) (b : BlockView) (purpose : Purpose) (fields : List Field) (due : Bool) (rest : List ℕ) (end_headers : Bool) → MayEnd s b.stream purpose
    → MayResult s (fragment_read (record s { table = table }) b (record { purpose = purpose; fields = fields; due = due; rest = rest }) end_headers)
read-result s table b purpose fields due rest false h = record { book = refl; config = refl; same = refl; block = opened-for s b fields due rest purpose h; update = tt }
read-result s table b purpose fields due rest true h = at (not (eqb (length rest) 0)) due
  where
    at : (short missing : Bool) → MayResult s (cond short (Breaks BlockTruncated) (cond missing (Breaks SizeUpdateMissing) (Makes (record s { table = table; block = None }) (block_ends (record s { table = table }) b.stream b.ends fields purpose))))
    at true missing = tt
    at false true = tt
    at false false = record { book = refl; config = refl; same = refl; block = none-opened s; update = ends-update s table b.stream b.ends fields purpose h }

fragment-result : (s : State) (b : BlockView) (d : Decoding) (octets : List ℕ) (end_headers : Bool) → MayEnd s b.stream d.purpose → MayResult s (fragment s b d octets end_headers)
fragment-result s b d octets end_headers h = at (nat_lt max_block (b.octets + length octets))
  where
    shown : BlockView
    shown = record b { octets = b.octets + length octets }

    decodes : (r : Decoded) → MayResult s (fragment_decoded s shown d.purpose end_headers r)
    decodes r = outcome r.outcome
      where
        outcome : (o : Outcome) → MayResult s (fragment_decoded s shown d.purpose end_headers (record r { outcome = o }))
        outcome (Unfinished rest) = read-result s r.progress.table (record shown { list_size = list_size r.progress.fields }) d.purpose r.progress.fields r.progress.due rest end_headers h
        outcome (Faulty fault) = tt

    at : (t : Bool) → MayResult s (cond t (Breaks BlockTooLarge) (fragment_decoded s shown d.purpose end_headers (decoded_with s d octets)))
    at true = tt
    at false = decodes (decoded_with s d octets)

-- ---- an item

-- what is true of every connection: its records are of streams that have been opened, up to the last one, and an open
-- block is known by its stream
pub record IsOrdered (s : State) : Type 0 where
  pub rising : AreRising 0 s.core.last s.streams
  pub opened : (id : ℕ) (st : Stream) → record_of s.streams id ≡ Some st → IsRecorded st.kind
  pub block : IsOpenFor (record { streams = s.streams; last = s.core.last }) s.block

-- a stream above the last one has no record
above-end : (s : State) (id : ℕ) → IsOrdered s → s.core.last < id → MayEnd s id Request
above-end s id x above = λ st e h. let low = found_within _ s.core.last s.streams st x.rising e in let same = found-id id s.streams st e in omega (arith, low, same, above)

-- nor has an idle one of the client's
idle-end : (s : State) (id : ℕ) → IsOrdered s → (stream_at s.core.last s.streams id).kind ≡ Idle → eqb (id % 2) 1 ≡ true → MayEnd s id Request
unfolding stream_at
idle-end s id x idle odd = λ st e h. even st e h (eqb (id % 2) 0) (ltb s.core.last id) refl refl idle
  where
    even : (st : Stream) → record_of s.streams id ≡ Some st → can_change s.block st ≡ false → (a b : Bool) → eqb (id % 2) 0 ≡ a → ltb s.core.last id ≡ b
        → (cond a (not_live id Idle) (cond b (not_live id Idle) (recorded id (record_of s.streams id)))).kind ≡ Idle → ⊥
    even st e h true b f g i = let zeros = eqb-true (id % 2) 0 f in let ones = eqb-true (id % 2) 1 odd in omega (arith, zeros, ones)
    even st e h false true f g i = above-end s id x (ltb-true s.core.last id g) st e h
    even st e h false false f g i = subst IsRecorded (sym (ap (λ (o : Option Stream). (recorded id o).kind) e) ∙ i) (x.opened id st e)

closed-end : (s : State) (id : ℕ) → is_live (stream_at s.core.last s.streams id).kind ≡ true → MayEnd s id Closed
closed-end s id live = live-update s id (not_live id WeReset) live (sym (at-id s.core.last s.streams id))

-- the open block's end
purpose-end : (s : State) (id : ℕ) (purpose : Purpose) → IsOrdered s → IsOpenAt (record { streams = s.streams; last = s.core.last }) id purpose
    → ((j : ℕ) → is_reset_by j s.block ≡ (ends_in_reset purpose && eqb id j)) → MayEnd s id purpose
purpose-end s id Request x o r = above-end s id x o.0
purpose-end s id Trailers x o r = peer-open-live (kind_of s.core.last s.streams id) o
purpose-end s id Closed x o r = λ st e h. true≢false (sym (eq-eqb id st.id (sym (found-id id s.streams st e))) ∙ sym (r st.id) ∙ not-reset s.block st h)
purpose-end s id TableOnly x o r = tt

continued-result : (s : State) (octets : List ℕ) (end_headers : Bool) → IsOrdered s → MayResult s (continuation s s.block octets end_headers)
continued-result s octets end_headers x = at s.block refl
  where
    decodes : (b : OpenBlock) → s.block ≡ Some b → (o : Option Decoding) → b.decoding ≡ o → MayResult s (continued s b.shown o octets end_headers)
    decodes b e None f = tt
    decodes b e (Some d) f =
        let known : IsOpenFor (record { streams = s.streams; last = s.core.last }) (Some b) = subst (IsOpenFor (record { streams = s.streams; last = s.core.last })) e x.block in
        fragment-result s b.shown d octets end_headers
        (purpose-end s b.shown.stream d.purpose x (rw f at known) (λ j. ap (is_reset_by j) e ∙ ap (resets_in j b.shown.stream) f))

    at : (o : Option OpenBlock) → s.block ≡ o → MayResult s (continuation s o octets end_headers)
    at None e = tt
    at (Some b) e = decodes b e b.decoding refl

headers-result : (s : State) (h : Head) (part : HeadersPart) → IsOrdered s → MayResult s (on_headers s h part (headers_cell h.stream (stream_at s.core.last s.streams h.stream).kind))
headers-result s h part x = at (stream_at s.core.last s.streams h.stream).kind refl
  where
    opens : (purpose : Purpose) → MayEnd s h.stream purpose → MayResult s (block_opens s purpose h part)
    opens purpose may = fragment-result s (fresh_block h) (fresh_decoding s purpose) part.fragment (has h.flags END_HEADERS) may

    first : (b : Bool) → eqb (h.stream % 2) 1 ≡ b → (stream_at s.core.last s.streams h.stream).kind ≡ Idle → MayResult s (on_headers s h part (cond b (Rule Request) (Error HeadersOnEven)))
    first true odd e = opens Request (idle-end s h.stream x e odd)
    first false odd e = tt

    at : (k : StreamState) → (stream_at s.core.last s.streams h.stream).kind ≡ k → MayResult s (on_headers s h part (headers_cell h.stream k))
    at Idle e = first (eqb (h.stream % 2) 1) refl e
    at Skipped e = tt
    at BothOpen e = opens Trailers (ap is_live e)
    at HalfLocal e = opens Trailers (ap is_live e)
    at HalfRemote e = opens Closed (closed-end s h.stream (ap is_live e))
    at Ended e = tt
    at PeerReset e = tt
    at WeReset e = opens TableOnly tt

part-result : (s : State) (h : Head) (p : List ℕ) → IsOrdered s → (part : Part) → MayResult s (frame_effect s h p part)
part-result s h p x (OfData part) = data-result s h.stream (incoming h p part)
part-result s h p x (OfHeaders part) = headers-result s h part x
part-result s h p x OfPriority = stays s _ tt
part-result s h p x (OfRstStream code) = reset-result s h.stream
part-result s h p x (OfSettings pairs) = settings-result s pairs
part-result s h p x OfSettingsAck = either s s.core.acked (Continues (ignoring SecondAcknowledgement (only_counts s.core))) (Continues (comes_into_force s.core (configured s.config))) (stays s _ tt) (stays s _ tt)
part-result s h p x OfPushPromise = tt
part-result s h p x (OfPing octets) = either s (has h.flags ACK) (ignore s.core PingAcknowledgement) (Continues (record (only_counts s.core) { connection_frame = PingAck octets })) (stays s _ tt) (stays s _ tt)
part-result s h p x (OfGoaway last code) = stays s _ tt
part-result s h p x (OfWindowUpdate n) = at (eqb h.stream 0)
  where
    at : (b : Bool) → MayResult s (makes s (cond b (connection_window s.core n) (on_window s.core n (stream_at s.core.last s.streams h.stream))))
    at true = connection-result s n
    at false = window-result s h.stream n
part-result s h p x (OfContinuation fragment) = continued-result s fragment (has h.flags END_HEADERS) x
part-result s h p x OfUnknown = stays s _ tt

item-result : (s : State) (item : Item) → IsOrdered s → MayResult s (item_effect s item)
item-result s Preface x = stays s _ tt
item-result s BadPreface x = tt
item-result s (Oversize h) x = tt
item-result s (WholeFrame h p) x = checked (refusal (block_stream s.block) s.core.phase h)
  where
    parted : (r : Result Part Cause) → MayResult s (part_effect s h p r)
    parted (Ok part) = part-result s h p x part
    parted (Err cause) = tt

    checked : (o : Option Cause) → MayResult s (checked_effect s h p o)
    checked (Some code) = tt
    checked None = parted (part_of h p)

effect-follows : (s : State) (item : Item) → IsOrdered s → Follows s (effect s item).state
unfolding effect
effect-follows s item x = result-follows s (item_effect s item) (item-result s item x)

-- what an item leaves of the records
pub step-follows : (s : State) (item : Item) → IsOrdered s → Follows s (step s item).state
unfolding step
step-follows s item x = sent (effect s item).state.core.phase
  where
    does : Follows s (effect s item).state
    does = effect-follows s item x

    sent : (p : Phase) → Follows s (then_sent p (effect s item)).state
    sent (phase.Ended code) = does
    sent phase.Preface = follows-then s (effect s item).state _ does (sending-follows (effect s item).state)
    sent phase.Settings = follows-then s (effect s item).state _ does (sending-follows (effect s item).state)
    sent phase.Running = follows-then s (effect s item).state _ does (sending-follows (effect s item).state)

-- ---- the connection's own facts

recorded-is : (k : StreamState) → is_recorded k ≡ true → IsRecorded k
recorded-is Idle h = absurd (true≢false (sym h))
recorded-is Skipped h = absurd (true≢false (sym h))
recorded-is BothOpen h = tt
recorded-is HalfRemote h = tt
recorded-is HalfLocal h = tt
recorded-is Ended h = tt
recorded-is PeerReset h = tt
recorded-is WeReset h = tt

sound-opened : (book : List Entry) (f : InForce) (streams : List Stream) → AreSound book f streams → (id : ℕ) (st : Stream) → record_of streams id ≡ Some st → IsRecorded st.kind
sound-opened book f [] all id st e = absurd (cc)
sound-opened book f (x ∷ xs) all id st e = at (λ g. sound-opened book f xs all.1 id st g) (eqb x.id id) e
  where
    at : (record_of xs id ≡ Some st → IsRecorded st.kind) → (b : Bool) → cond b (Some x) (record_of xs id) ≡ Some st → IsRecorded st.kind
    at more true e = let same : x ≡ st = cc in subst (λ (y : Stream). IsRecorded y.kind) same (recorded-is x.kind all.0.2)
    at more false e = more e

pub ordered : (s : State) (r : Records) → s.streams ≡ r.streams → IsSoundState s.book s.core r → AreRising 0 r.last r.streams → IsOpenFor r s.block → IsOrdered s
ordered s r same x rising known = record {
  rising = rw (same, ← x.last) rising;
  opened = rw same (sound-opened s.book (in_force s.core) r.streams x.records);
  block = rw (same, ← x.last) known;
}

-- ---- a state that came before another

-- where all records that can change pass the test, the others are as they were
pub before-continues : (s later : State) → Rise 0 later.streams → Follows s later → IsContinued (can_change s.block) s.streams later.streams
before-continues s later rising f = continues-of (can_change s.block) 0 s.streams later.streams f.records.more rising f.records.ids f.records.same

pub before-rising : (s later : State) → Rise 0 later.streams → Follows s later → Rise 0 s.streams
before-rising s later rising f = rise-front 0 s.streams later.streams f.records.more f.records.ids rising

-- its records are made again from those of the later one
pub before-rebuilt : (s later : State) → Rise 0 later.streams → Follows s later → rebuilt (length s.streams) (filter (can_change s.block) s.streams) later.streams ≡ s.streams
before-rebuilt s later rising f = rebuilt-is (can_change s.block) 0 s.streams later.streams (before-rising s later rising f) (before-continues s later rising f)

-- those that are live or are of the stream that the end of the open block resets can change
pub changing-listed : (block : Option OpenBlock) (other : Option ℕ) → ((id : ℕ) → is_this other id ≡ is_reset_by id block) → (xs : List Stream) → filter (is_live_or other) xs ≡ filter (can_change block) xs
changing-listed block other h xs = filter-same (is_live_or other) (can_change block) (λ st. ap (λ (b : Bool). is_live st.kind || b) (h st.id)) xs

-- what can't change is not live
pub settled-closed : (block : Option OpenBlock) (st : Stream) → can_change block st ≡ false → is_live st.kind ≡ false
settled-closed block st h = not-live block st h
