-- The counts stay within their limits, and the records within what the book has.
use Rattle.std.proofs.Common.{◌≡◌, ℕ, ◌%◌, ltb, eqb, ◌<◌, ◌≤◌, List, [], ◌∷◌, length, Bool, true, false, cond, ◌||◌, ◌&&◌, not, max, Option, Some, None, refl, sym, ap, subst, ◌⊎◌, inl, inr, ◌∙◌, arith, ℤ, pos, negsuc, ◌+ℤ◌, ◌-ℤ◌, ◌≤ℤ◌, int_lt}
use Rattle.std.proofs.lemmas.Bool.{false≢true}
use Rattle.std.proofs.lemmas.Int.{ints}
use Rattle.std.specs.List.{AllByRecursion}
use Rattle.std.specs.Option.{is_some}
use Rattle.h2_spec.specs.declared.causes.Cause.{Cause}
use Rattle.h2_spec.specs.declared.connection.ConnectionState.{ConnectionState}
use Rattle.h2_spec.specs.declared.flow.LocalSettings.{LocalSettings}
use Rattle.h2_spec.specs.declared.reactions.Change.{Change}
use Rattle.h2_spec.specs.declared.reactions.RecordUpdate.{RecordUpdate}
use Rattle.h2_spec.specs.declared.reactions.RecordUpdate.TheVariants.{Unchanged, Put, Shift, Receive}
use Rattle.h2_spec.specs.declared.streams.Stream.{Stream}
use Rattle.h2_spec.specs.declared.streams.StreamState.{StreamState}
use Rattle.h2_spec.specs.declared.streams.StreamState.TheVariants.{Idle, Skipped, BothOpen, HalfRemote, HalfLocal, Ended, PeerReset, WeReset}
use Rattle.h2_spec.specs.Requests.Answer.{Entry, picked}
use Rattle.h2_spec.specs.Change.{follows_initial_window, moved_by, overflows, overflows_one, received, received_one, shifted, shifted_one, updated_streams, with_recv, with_send}
use Rattle.h2_spec.specs.SettingsFrame.{comes_into_force}
use Rattle.h2_spec.specs.Requests.StreamEnds.{server_ended, server_ended_as, with_kind}
use Rattle.h2_spec.specs.Stream.{Records, is_live, is_peer_open, kind_of, not_live, octets_waiting, put, record_of, recorded, stream_at}
use Rattle.h2_spec.specs.Window.{is_above_max}
use Rattle.h2_streams.specs.Put.{CanPut, is_closed}
use Rattle.h2_streams.specs.Shift.{CanReceive, CanShift}
use Rattle.h2_conn_rules.specs.Sound.{AreInRange, AreSound, HasBody, InForce, IsCredit, IsSoundChange, IsSoundState, IsSoundStream, IsSoundRecordUpdate, IsWindow, in_force, is_recorded, updated_records}

-- ---- a stream that is not live

-- settings leave a stream alone that is not live
follows-ended : (kind : StreamState) → is_live kind ≡ false → follows_initial_window kind ≡ false
follows-ended Idle h = refl
follows-ended Skipped h = refl
follows-ended BothOpen h = absurd (false≢true (sym h))
follows-ended HalfRemote h = absurd (false≢true (sym h))
follows-ended HalfLocal h = refl
follows-ended Ended h = refl
follows-ended PeerReset h = refl
follows-ended WeReset h = refl

pub not-live-sound : (f : InForce) (id : ℕ) (kind : StreamState) → is_live kind ≡ false → IsSoundStream f (not_live id kind)
not-live-sound f id kind ended = ((λ live. absurd (false≢true (sym ended ∙ live))), grind arith, λ follows. absurd (false≢true (sym (follows-ended kind ended) ∙ follows)))

pub not-live-body : (book : List Entry) (id : ℕ) (kind : StreamState) → HasBody book (not_live id kind)
unfolding octets_waiting
not-live-body book id kind = (tt, by_test (is_live kind))
  where
    by_test : (t : Bool) → cond t 0 0 ≤ 0
    by_test true = omega arith
    by_test false = omega arith

-- ---- a stream whose peer's side ends

pub half-remote-sound : (f : InForce) (st : Stream) → st.kind ≡ BothOpen → IsSoundStream f st → IsSoundStream f (with_kind st HalfRemote)
half-remote-sound f st is sound = ((λ _. sound.0 (ap is_live is)), sound.1, λ _. sound.2 (ap follows_initial_window is))

pub half-remote-body : (book : List Entry) (st : Stream) → st.kind ≡ BothOpen → HasBody book st → HasBody book (with_kind st HalfRemote)
unfolding octets_waiting
half-remote-body book st is has = (has.0, subst (λ (k : StreamState). octets_waiting (with_kind st k) ≤ length (picked book st.pick).body) is has.1)

-- ---- the record of a live stream

pub is-live : (kind : StreamState) → (kind ≡ BothOpen) ⊎ ((kind ≡ HalfLocal) ⊎ (kind ≡ HalfRemote)) → is_live kind ≡ true
is-live kind (inl is) = ap is_live is
is-live kind (inr (inl is)) = ap is_live is
is-live kind (inr (inr is)) = ap is_live is

-- no cause is found
pub no-cause : (o : Option Cause) → not (is_some o) ≡ true → o ≡ None
no-cause None h = refl
no-cause (Some cause) h = absurd (false≢true h)

-- a stream that the peer may still send on is live
pub peer-open-live : (kind : StreamState) → is_peer_open kind ≡ true → is_live kind ≡ true
peer-open-live Idle h = h
peer-open-live Skipped h = h
peer-open-live BothOpen h = refl
peer-open-live HalfRemote h = refl
peer-open-live HalfLocal h = refl
peer-open-live Ended h = h
peer-open-live PeerReset h = h
peer-open-live WeReset h = h

-- a live stream is not above the last one that was opened
pub live-within : (last id : ℕ) (streams : List Stream) → is_live (stream_at last streams id).kind ≡ true → id ≤ last
unfolding stream_at
live-within last id streams h = by_tests (eqb (id % 2) 0) (ltb last id) refl h
  where
    by_tests : (s t : Bool) → ltb last id ≡ t → is_live (cond s (not_live id Idle) (cond t (not_live id Idle) (recorded id (record_of streams id)))).kind ≡ true → id ≤ last
    by_tests true t e g = absurd (let g : false ≡ true = g in cc)
    by_tests false true e g = absurd (let g : false ≡ true = g in cc)
    by_tests false false e g = grind (arith, e)

-- another record of a live stream can be put, and opens no stream
pub live-put : (r : Records) (st now : Stream) → st ≡ stream_at r.last r.streams st.id → is_live st.kind ≡ true → now.id ≡ st.id → CanPut now r × (r.last ≡ max r.last now.id)
live-put r st now found live same =
    let live_there : is_live (kind_of r.last r.streams st.id) ≡ true = subst (λ (x : Stream). is_live x.kind ≡ true) found live in
    let within : st.id ≤ r.last = live-within r.last st.id r.streams live_there in
    let here : is_live (kind_of r.last r.streams now.id) ≡ true = rw same live_there in
    let k = kind_of r.last r.streams now.id in
    ((λ above. absurd (omega (arith, above, within, same)), λ below. ap (λ t. t || (is_closed k && not (is_live now.kind))) here), omega (arith, within, same))

-- a live stream has been opened
pub live-recorded : (kind : StreamState) → is_live kind ≡ true → is_recorded kind ≡ true
live-recorded kind live = ap (λ t. t || is_closed kind) live

-- ---- the records that are there

found-sound-record : (book : List Entry) (f : InForce) (id : ℕ) (streams : List Stream) → AreSound book f streams →
    IsSoundStream f (recorded id (record_of streams id)) × HasBody book (recorded id (record_of streams id))
found-sound-record book f id [] all = (not-live-sound f id Skipped refl, not-live-body book id Skipped)
found-sound-record book f id (st ∷ sts) all = by_test (eqb st.id id) (found-sound-record book f id sts all.1)
  where
    by_test : (t : Bool) → IsSoundStream f (recorded id (record_of sts id)) × HasBody book (recorded id (record_of sts id)) →
        IsSoundStream f (recorded id (cond t (Some st) (record_of sts id))) × HasBody book (recorded id (cond t (Some st) (record_of sts id)))
    by_test true rest = (all.0.0, all.0.1)
    by_test false rest = rest

-- the stream with an identifier is sound where all records are
pub found-sound : (book : List Entry) (f : InForce) (last id : ℕ) (streams : List Stream) → AreSound book f streams →
    IsSoundStream f (stream_at last streams id) × HasBody book (stream_at last streams id)
unfolding stream_at
found-sound book f last id streams all = by_tests (eqb (id % 2) 0) (ltb last id)
  where
    idle : IsSoundStream f (not_live id Idle) × HasBody book (not_live id Idle)
    idle = (not-live-sound f id Idle refl, not-live-body book id Idle)

    by_tests : (s t : Bool) → (let st = cond s (not_live id Idle) (cond t (not_live id Idle) (recorded id (record_of streams id))) in IsSoundStream f st × HasBody book st)
    by_tests true t = idle
    by_tests false true = idle
    by_tests false false = found-sound-record book f id streams all

-- no record is of an idle stream
never-idle : (book : List Entry) (f : InForce) (id : ℕ) (streams : List Stream) → AreSound book f streams → (recorded id (record_of streams id)).kind ≡ Idle → ⊥
never-idle book f id [] all idle = let e : Skipped ≡ Idle = idle in cc
never-idle book f id (st ∷ sts) all idle = by_test (eqb st.id id) (never-idle book f id sts all.1) idle
  where
    by_test : (t : Bool) → ((recorded id (record_of sts id)).kind ≡ Idle → ⊥) → (recorded id (cond t (Some st) (record_of sts id))).kind ≡ Idle → ⊥
    by_test true rest e = false≢true (sym (ap is_recorded e) ∙ all.0.2)
    by_test false rest e = rest e

-- so an idle stream that a client may open is above the last one that was opened
pub idle-above : (book : List Entry) (f : InForce) (last id : ℕ) (streams : List Stream) → AreSound book f streams → (stream_at last streams id).kind ≡ Idle → id % 2 ≡ 1 → last < id
unfolding stream_at
idle-above book f last id streams all idle odd = by_tests (eqb (id % 2) 0) (ltb last id) refl refl idle
  where
    by_tests : (s t : Bool) → eqb (id % 2) 0 ≡ s → ltb last id ≡ t → (cond s (not_live id Idle) (cond t (not_live id Idle) (recorded id (record_of streams id)))).kind ≡ Idle → last < id
    by_tests true t e h g = absurd (false≢true (sym (ap (λ n. eqb n 0) odd) ∙ e))
    by_tests false true e h g = grind (arith, h)
    by_tests false false e h g = absurd (never-idle book f id streams all g)

-- ---- a record is put

put-sound : (book : List Entry) (f : InForce) (st : Stream) (streams : List Stream) → IsSoundStream f st × HasBody book st × (is_recorded st.kind ≡ true) → AreSound book f streams → AreSound book f (put st streams)
put-sound book f st [] one all = (one, tt)
put-sound book f st (x ∷ xs) one all = by_test (eqb x.id st.id) (put-sound book f st xs one all.1)
  where
    by_test : (t : Bool) → AreSound book f (put st xs) → AreSound book f (cond t (st ∷ xs) (x ∷ put st xs))
    by_test true rest = (one, all.1)
    by_test false rest = (all.0, rest)

-- ---- the initial window moves

still-below : (window : ℕ) (z : ℤ) → z ≤ℤ pos 2147483647 → int_lt (pos 2147483647) (z +ℤ (pos window -ℤ pos window)) ≡ false
still-below window z h = grind (arith, h)

still-one : (f : InForce) (st : Stream) → IsSoundStream f st → overflows_one (moved_by f.window f.window) st ≡ false
still-one f st h = by_test (follows_initial_window st.kind)
  where
    by_test : (t : Bool) → (t && is_above_max (st.numbers.send +ℤ moved_by f.window f.window)) ≡ false
    by_test true = still-below f.window st.numbers.send h.1
    by_test false = refl

-- no window passes its limit where the initial one stays
pub still : (book : List Entry) (f : InForce) (streams : List Stream) → AreSound book f streams → overflows (moved_by f.window f.window) streams ≡ false
unfolding overflows
still book f [] all = refl
still book f (st ∷ sts) all = rw (still-one f st all.0.0) (still book f sts all.1)

neither : (a b : Bool) → cond a true b ≡ false → (a ≡ false) × (b ≡ false)
neither true b e = absurd (false≢true (sym e))
neither false b e = (refl, e)

above-least : (from to : ℕ) (z : ℤ) → pos from ≤ℤ (z +ℤ pos 2147483647) → negsuc 2147483647 ≤ℤ (z +ℤ (pos to -ℤ pos from))
above-least from to z h = grind (arith, h)

-- the streams' windows can move as far as the initial one does
can-shift : (book : List Entry) (f : InForce) (to : ℕ) (streams : List Stream) → AreSound book f streams → AllByRecursion (CanShift (moved_by f.window to)) streams
can-shift book f to [] all = tt
can-shift book f to (st ∷ sts) all = (λ follows. above-least f.window to st.numbers.send (all.0.0.2 follows), can-shift book f to sts all.1)

-- what moving the records' windows asks for
pub update-can-shift : (book : List Entry) (core now : ConnectionState) (r : Records) (from to : ℕ) → IsSoundState book core r → IsSoundRecordUpdate book r (in_force core) now (Shift from to) →
    AllByRecursion (CanShift (moved_by from to)) r.streams × (overflows (moved_by from to) r.streams ≡ false)
update-can-shift book core now r from to state record_update =
    (subst (λ w. AllByRecursion (CanShift (moved_by w to)) r.streams) (sym record_update.1) (can-shift book (in_force core) to r.streams state.records), record_update.0)

moved-below : (z : ℤ) → is_above_max z ≡ false → z ≤ℤ pos 2147483647
moved-below z h = grind (arith, h)

moved-above : (from to : ℕ) (z : ℤ) → pos from ≤ℤ (z +ℤ pos 2147483647) → pos to ≤ℤ ((z +ℤ (pos to -ℤ pos from)) +ℤ pos 2147483647)
moved-above from to z h = grind (arith, h)

shifted-sound-one : (from : InForce) (to : ℕ) (st : Stream) → IsSoundStream from st → overflows_one (moved_by from.window to) st ≡ false → IsSoundStream (record from { window = to }) (shifted_one (moved_by from.window to) st)
shifted-sound-one from to st h fits = by_test (follows_initial_window st.kind) refl fits
  where
    d : ℤ
    d = moved_by from.window to

    by_test : (t : Bool) → follows_initial_window st.kind ≡ t → (t && is_above_max (st.numbers.send +ℤ d)) ≡ false → IsSoundStream (record from { window = to }) (cond t (with_send st (st.numbers.send +ℤ d)) st)
    by_test true e g = (h.0, moved-below (st.numbers.send +ℤ d) g, λ follows. moved-above from.window to st.numbers.send (h.2 e))
    by_test false e g = (h.0, h.1, λ follows. absurd (false≢true (sym e ∙ follows)))

shifted-body-one : (book : List Entry) (d : ℤ) (st : Stream) → HasBody book st → HasBody book (shifted_one d st)
unfolding octets_waiting
shifted-body-one book d st h = by_test (follows_initial_window st.kind)
  where
    by_test : (t : Bool) → HasBody book (cond t (with_send st (st.numbers.send +ℤ d)) st)
    by_test true = h
    by_test false = h

shifted-recorded-one : (d : ℤ) (st : Stream) → is_recorded st.kind ≡ true → is_recorded (shifted_one d st).kind ≡ true
shifted-recorded-one d st h = by_test (follows_initial_window st.kind)
  where
    by_test : (t : Bool) → is_recorded (cond t (with_send st (st.numbers.send +ℤ d)) st).kind ≡ true
    by_test true = h
    by_test false = h

shifted-sound : (book : List Entry) (from : InForce) (to : ℕ) (streams : List Stream) → AreSound book from streams → overflows (moved_by from.window to) streams ≡ false →
    AreSound book (record from { window = to }) (shifted (moved_by from.window to) streams)
unfolding shifted overflows
shifted-sound book from to [] all fits = tt
shifted-sound book from to (st ∷ sts) all fits =
    let d = moved_by from.window to in
    let both = neither (overflows_one d st) (overflows d sts) fits in
    ((shifted-sound-one from to st all.0.0 both.0, shifted-body-one book d st all.0.1, shifted-recorded-one d st all.0.2), shifted-sound book from to sts all.1 both.1)

-- ---- the server's own initial window moves

credit-within : (window owed : ℕ) (recv : ℤ) → window ≤ 2147483647 → (recv +ℤ pos owed) ≡ pos window → (recv +ℤ pos owed) ≤ℤ pos 2147483647
credit-within window owed recv most e = grind (arith, most, e)

recv-least : (window owed : ℕ) (recv : ℤ) → owed ≤ 2147483647 → (recv +ℤ pos owed) ≡ pos window → negsuc 2147483647 ≤ℤ recv
recv-least window owed recv few e = grind (arith, few, e)

-- what is owed on a live stream may be given back
pub live-credit : (f : InForce) (st : Stream) → f.own.window ≤ 2147483647 → IsSoundStream f st → is_live st.kind ≡ true → IsCredit st.numbers.recv st.numbers.owed × IsWindow st.numbers.recv
live-credit f st most sound live =
    let up = sound.0 live in
    (credit-within f.own.window st.numbers.owed st.numbers.recv most up.0, recv-least f.own.window st.numbers.owed st.numbers.recv up.1 up.0)

moved-makes : (from to owed : ℕ) (recv : ℤ) → (recv +ℤ pos owed) ≡ pos from → ((recv +ℤ (pos to -ℤ pos from)) +ℤ pos owed) ≡ pos to
moved-makes from to owed recv e = grind (arith, ints, e)

-- what a receive window and what is owed make up moves with it
received-sound-one : (from : InForce) (own : LocalSettings) (st : Stream) → IsSoundStream from st → IsSoundStream (record from { own = own }) (received_one (moved_by from.own.window own.window) st)
received-sound-one from own st h = by_test (is_live st.kind) refl
  where
    d : ℤ
    d = moved_by from.own.window own.window

    by_test : (t : Bool) → is_live st.kind ≡ t → IsSoundStream (record from { own = own }) (cond t (with_recv st (st.numbers.recv +ℤ d)) st)
    by_test true e = ((λ live. let before = h.0 e in (moved-makes from.own.window own.window st.numbers.owed st.numbers.recv before.0, before.1)), h.1, h.2)
    by_test false e = ((λ live. absurd (false≢true (sym e ∙ live))), h.1, h.2)

received-body-one : (book : List Entry) (d : ℤ) (st : Stream) → HasBody book st → HasBody book (received_one d st)
unfolding octets_waiting
received-body-one book d st h = by_test (is_live st.kind)
  where
    by_test : (t : Bool) → HasBody book (cond t (with_recv st (st.numbers.recv +ℤ d)) st)
    by_test true = h
    by_test false = h

received-recorded-one : (d : ℤ) (st : Stream) → is_recorded st.kind ≡ true → is_recorded (received_one d st).kind ≡ true
received-recorded-one d st h = by_test (is_live st.kind)
  where
    by_test : (t : Bool) → is_recorded (cond t (with_recv st (st.numbers.recv +ℤ d)) st).kind ≡ true
    by_test true = h
    by_test false = h

received-sound : (book : List Entry) (from : InForce) (own : LocalSettings) (streams : List Stream) → AreSound book from streams →
    AreSound book (record from { own = own }) (received (moved_by from.own.window own.window) streams)
unfolding received
received-sound book from own [] all = tt
received-sound book from own (st ∷ sts) all =
    let d = moved_by from.own.window own.window in
    ((received-sound-one from own st all.0.0, received-body-one book d st all.0.1, received-recorded-one d st all.0.2), received-sound book from own sts all.1)

least-received : (from to owed : ℕ) (recv : ℤ) → to ≤ 2147483647 → owed ≤ 2147483647 → (recv +ℤ pos owed) ≡ pos from → negsuc 2147483647 ≤ℤ (recv +ℤ (pos to -ℤ pos from))
least-received from to owed recv most few e = grind (arith, most, few, e)

most-received : (from to owed : ℕ) (recv : ℤ) → to ≤ 2147483647 → owed ≤ 2147483647 → (recv +ℤ pos owed) ≡ pos from → (recv +ℤ (pos to -ℤ pos from)) ≤ℤ pos 2147483647
most-received from to owed recv most few e = grind (arith, most, few, e)

-- the receive windows can move as far as the server's initial one does
pub can-receive : (book : List Entry) (f : InForce) (to : ℕ) (streams : List Stream) → to ≤ 2147483647 → AreSound book f streams → AllByRecursion (CanReceive (moved_by f.own.window to)) streams
can-receive book f to [] most all = tt
can-receive book f to (st ∷ sts) most all =
    let n = st.numbers in
    ((λ live. let up = all.0.0.0 live in (least-received f.own.window to n.owed n.recv most up.1 up.0, most-received f.own.window to n.owed n.recv most up.1 up.0)), can-receive book f to sts most all.1)

-- the state is sound once the server's settings are in force
pub in-force-sound : (book : List Entry) (core : ConnectionState) (own : LocalSettings) (r : Records) → AreInRange own → IsSoundState book core r →
    IsSoundState book (comes_into_force core own).core (updated_records (Receive core.own.window own.window) r)
in-force-sound book core own r range state =
    let c = state.counts in
    record { counts = (c.0, c.1, c.2, c.3, range); records = received-sound book (in_force core) own r.streams state.records; last = state.last }

-- ---- a change

-- the records of a change are those of its touch
pub updated-streams : (record_update : RecordUpdate) (r : Records) → (updated_records record_update r).streams ≡ updated_streams record_update r.streams
updated-streams Unchanged r = refl
updated-streams (Put st) r = refl
updated-streams (Shift from to) r = refl
updated-streams (Receive from to) r = refl

-- the server's settings stay as they are
pub same-own : (book : List Entry) (r : Records) (before : InForce) (now : ConnectionState) (t : RecordUpdate) → IsSoundRecordUpdate book r before now t → now.own ≡ before.own
same-own book r before now Unchanged h = sym (ap (λ (f : InForce). f.own) h.0)
same-own book r before now (Put st) h = sym (ap (λ (f : InForce). f.own) h.2)
same-own book r before now (Shift from to) h = sym h.4
same-own book r before now (Receive from to) h = absurd h

-- the state is sound after a sound change
pub changed-sound : (book : List Entry) (core : ConnectionState) (r : Records) (c : Change) → IsSoundState book core r → IsSoundChange book r (in_force core) c → IsSoundState book c.core (updated_records c.record_update r)
changed-sound book core r c state change = at c.record_update change.1
  where
    at : (record_update : RecordUpdate) → IsSoundRecordUpdate book r (in_force core) c.core record_update → IsSoundState book c.core (updated_records record_update r)
    at Unchanged t = record { counts = change.0; records = subst (λ w. AreSound book w r.streams) t.0 state.records; last = sym t.1 }
    at (Put st) t = record {
      counts = change.0;
      records = put-sound book (in_force c.core) st r.streams (t.0, t.1, t.5) (subst (λ w. AreSound book w r.streams) t.2 state.records);
      last = sym t.4;
    }
    at (Shift from to) t =
        let now = shifted (moved_by from to) r.streams in
        let fits : overflows (moved_by core.peer.window to) r.streams ≡ false = subst (λ w. overflows (moved_by w to) r.streams ≡ false) t.1 t.0 in
        let moved : AreSound book (record { window = to; own = core.own }) now = subst (λ w. AreSound book (record { window = to; own = core.own }) (shifted (moved_by w to) r.streams)) (sym t.1) (shifted-sound book (in_force core) to r.streams state.records fits) in
        record {
          counts = change.0;
          records = subst (λ own. AreSound book (record { window = c.core.peer.window; own = own }) now) t.4 (subst (λ w. AreSound book (record { window = w; own = core.own }) now) t.2 moved);
          last = sym t.3;
        }
    at (Receive from to) t = absurd t

-- ---- the server's side ends

pub ended-sound : (f : InForce) (st : Stream) → IsSoundStream f st → IsSoundStream f (server_ended st)
unfolding server_ended
ended-sound f st h = at st.kind refl
  where
    at : (k : StreamState) → st.kind ≡ k → IsSoundStream f (server_ended_as k st)
    at BothOpen e = ((λ live. h.0 (ap is_live e)), h.1, λ follows. absurd (false≢true follows))
    at HalfRemote e = not-live-sound f st.id Ended refl
    at Idle e = h
    at Skipped e = h
    at HalfLocal e = h
    at Ended e = h
    at PeerReset e = h
    at WeReset e = h

pub ended-body : (book : List Entry) (st : Stream) → HasBody book st → HasBody book (server_ended st)
unfolding server_ended octets_waiting
ended-body book st h = at st.kind
  where
    at : (k : StreamState) → HasBody book (server_ended_as k st)
    at BothOpen = (h.0, omega arith)
    at HalfRemote = not-live-body book st.id Ended
    at Idle = h
    at Skipped = h
    at HalfLocal = h
    at Ended = h
    at PeerReset = h
    at WeReset = h
