-- Records of which the first are in brief: what is found, counted or changed in one's own is so in all.
use Rattle.std.proofs.Common.{◌≡◌, ℕ, ◌<◌, ◌≤◌, ◌%◌, Bool, true, false, ◌&&◌, cond, eqb, nat_lt, ◌+ℤ◌, map, List, [], ◌∷◌, ◌++◌, Some, Result, Ok, Err, OnOk, OnErr, refl, ap, ◌∙◌, sym, subst, arith, ℤ, true≢false}
use Rattle.std.specs.Prelude.{find}
use Rattle.std.specs.List.{AllByRecursion, filter, list_any}
use Rattle.std.specs.Option.{option_map}
use Rattle.h2_spec.specs.declared.streams.Stream.{Stream}
use Rattle.h2_spec.specs.Change.{follows_initial_window, overflows, overflows_one, received, received_one, shifted, shifted_one, with_recv, with_send}
use Rattle.h2_spec.specs.declared.streams.StreamState.{StreamState}
use Rattle.h2_spec.specs.declared.streams.StreamState.TheVariants.{Idle, Skipped, BothOpen, HalfRemote, HalfLocal, Ended, PeerReset, WeReset}
use Rattle.h2_spec.specs.Requests.StreamEnds.{server_ended, server_ended_as}
use Rattle.h2_spec.specs.Stream.{AreRising, Records, added, id_of, is_live, is_peer_open, is_server_open, live_count, next_waiting, no_records, peer_closed, peer_closed_as, put, record_of, waits_above}
use Rattle.h2_streams.specs.Brief.{AreBrief, IsBrief, brief}
use Rattle.h2_streams.specs.Joined.{Base, GoWith, with_base}
use Rattle.h2_streams.specs.Kept.{ids_of, is_ready, lives, next_ready, ready_above}
use Rattle.h2_streams.specs.Shift.{CanReceive, CanShift}
use Rattle.h2_streams.proofs.IdsLaws.{idle-ready}
use Rattle.h2_streams.proofs.JoinedLaws.{any-joined, count-joined, filter-joined, find-joined, ids-filter, joined-append, joined-map, joined-push, map-joined, rising-map}
use Rattle.h2_streams.proofs.JoinedPut.{joined-put, put-joined}
use Rattle.h2_streams.proofs.LiveLaws.{idle-waits}
use Rattle.h2_streams.proofs.PlaceLaws.{rise, rising-push, rising-put}
use Rattle.h2_streams.proofs.ShiftLaws.{any-overflows, follows-ended, overflows-ended}

-- ---- what is asked of the live ones

pub rising-all : (b : Base) (own : Records) → GoWith b own → AreRising 0 (with_base b own).last (with_base b own).streams
rising-all b own g = g.is_joined.rising

pub last-all : (b : Base) (own : Records) → (with_base b own).last ≡ own.last
last-all b own = refl

pub filter-all : (t : Stream → Bool) → ((st : Stream) → is_live st.kind ≡ false → t st ≡ false) → (b : Base) (own : Records) → GoWith b own → filter t (with_base b own).streams ≡ filter t own.streams
filter-all t idle b own g = filter-joined t idle b.records b.front own.streams own.last g.is_joined (rise 0 own.last own.streams g.own_rising)

pub find-all : (t : Stream → Bool) → ((st : Stream) → is_live st.kind ≡ false → t st ≡ false) → (b : Base) (own : Records) → GoWith b own → find t (with_base b own).streams ≡ find t own.streams
find-all t idle b own g = find-joined t idle b.records b.front own.streams own.last g.is_joined (rise 0 own.last own.streams g.own_rising)

pub any-all : (t : Stream → Bool) → ((st : Stream) → is_live st.kind ≡ false → t st ≡ false) → (b : Base) (own : Records) → GoWith b own → list_any t (with_base b own).streams ≡ list_any t own.streams
any-all t idle b own g = any-joined t idle b.records b.front own.streams own.last g.is_joined (rise 0 own.last own.streams g.own_rising)

pub count-all : (b : Base) (own : Records) → GoWith b own → live_count (with_base b own).streams ≡ live_count own.streams
count-all b own g = count-joined b.records b.front own.streams own.last g.is_joined (rise 0 own.last own.streams g.own_rising)

ready-idle : (after : ℕ) (st : Stream) → is_live st.kind ≡ false → ready_above after st ≡ false
ready-idle after st h = rw (idle-ready st h) (by (nat_lt after st.id))
  where
    by : (b : Bool) → (b && false) ≡ false
    by true = refl
    by false = refl

pub ready-all : (after : ℕ) (b : Base) (own : Records) → GoWith b own → next_ready after (with_base b own).streams ≡ next_ready after own.streams
ready-all after b own g = ap (option_map id_of) (find-all (ready_above after) (ready-idle after) b own g)

pub none-all : (b : Base) (own : Records) → GoWith b own → list_any is_ready (with_base b own).streams ≡ list_any is_ready own.streams
none-all b own g = any-all is_ready idle-ready b own g

pub waiting-all : (after : ℕ) (b : Base) (own : Records) → GoWith b own → next_waiting after (with_base b own).streams ≡ next_waiting after own.streams
unfolding next_waiting
waiting-all after b own g = ap (option_map id_of) (find-all (waits_above after) (idle-waits after) b own g)

pub overflows-all : (d : ℤ) (b : Base) (own : Records) → GoWith b own → overflows d (with_base b own).streams ≡ overflows d own.streams
overflows-all d b own g =
    sym (any-overflows d (with_base b own).streams) ∙ any-all (overflows_one d) (overflows-ended d) b own g ∙ any-overflows d own.streams

-- ---- what holds of all holds of one's own

-- what holds of all holds of those that pass a test
kept-filter : (P : Stream → Type 0) (t : Stream → Bool) (rs : List Stream) → AllByRecursion P rs → AllByRecursion P (filter t rs)
kept-filter P t [] h = tt
kept-filter P t (x ∷ xs) h = by (t x) (kept-filter P t xs h.1)
  where
    by : (b : Bool) → AllByRecursion P (filter t xs) → AllByRecursion P (cond b (x ∷ filter t xs) (filter t xs))
    by true rest = (h.0, rest)
    by false rest = rest

-- and what holds of these, and of the others whatever they are, holds of all
all-filtered : (P : Stream → Type 0) (t : Stream → Bool) → ((st : Stream) → t st ≡ false → P st) → (rs : List Stream) → AllByRecursion P (filter t rs) → AllByRecursion P rs
all-filtered P t others [] h = tt
all-filtered P t others (x ∷ xs) h = by (t x) refl h (all-filtered P t others xs)
  where
    by : (b : Bool) → t x ≡ b → AllByRecursion P (cond b (x ∷ filter t xs) (filter t xs)) → (AllByRecursion P (filter t xs) → AllByRecursion P xs) → AllByRecursion P (x ∷ xs)
    by true e k rest = (k.0, rest k.1)
    by false e k rest = (others x e, rest k)

own-all : (P : Stream → Type 0) → ((st : Stream) → is_live st.kind ≡ false → P st) → (b : Base) (own : Records) → GoWith b own → AllByRecursion P (with_base b own).streams → AllByRecursion P own.streams
own-all P others b own g h =
    all-filtered P lives others own.streams (subst (AllByRecursion P) (filter-all lives (λ st e. e) b own g) (kept-filter P lives (with_base b own).streams h))

pub can-shift : (d : ℤ) (b : Base) (own : Records) → GoWith b own → AllByRecursion (CanShift d) (with_base b own).streams → AllByRecursion (CanShift d) own.streams
can-shift d b own g h = own-all (CanShift d) (λ st e follows. absurd (true≢false (sym follows ∙ follows-ended st.kind e))) b own g h

pub can-receive : (d : ℤ) (b : Base) (own : Records) → GoWith b own → AllByRecursion (CanReceive d) (with_base b own).streams → AllByRecursion (CanReceive d) own.streams
can-receive d b own g h = own-all (CanReceive d) (λ st e live. absurd (true≢false (sym live ∙ e))) b own g h

-- ---- a change of the live ones

module _ (f : Stream → Stream) (ids : (st : Stream) → (f st).id ≡ st.id) (idle : (st : Stream) → is_live st.kind ≡ false → f st ≡ st) where
  go-map : (b : Base) (own : Records) → GoWith b own → GoWith b (record own { streams = map f own.streams })
  go-map b own g = record {
    own_rising = rising-map f ids 0 own.last own.streams g.own_rising;
    base_brief = g.base_brief;
    is_joined = joined-map f ids idle b.records b.front own.streams own.last g.is_joined;
  }

  map-all : (b : Base) (own : Records) → GoWith b own → with_base b (record own { streams = map f own.streams }) ≡ record (with_base b own) { streams = map f (with_base b own).streams }
  map-all b own g = ap (λ (xs : List Stream). let r : Records = record own { streams = xs } in r) (sym (map-joined f ids idle b.records b.front own.streams own.last g.is_joined))

module _ (d : ℤ) where
  id-shifted : (st : Stream) → (shifted_one d st).id ≡ st.id
  id-shifted st = by (follows_initial_window st.kind)
    where
      by : (b : Bool) → (cond b (with_send st (st.numbers.send +ℤ d)) st).id ≡ st.id
      by true = refl
      by false = refl

  idle-shifted : (st : Stream) → is_live st.kind ≡ false → shifted_one d st ≡ st
  idle-shifted st h = rw (follows-ended st.kind h) refl

  id-received : (st : Stream) → (received_one d st).id ≡ st.id
  id-received st = by (is_live st.kind)
    where
      by : (b : Bool) → (cond b (with_recv st (st.numbers.recv +ℤ d)) st).id ≡ st.id
      by true = refl
      by false = refl

  idle-received : (st : Stream) → is_live st.kind ≡ false → received_one d st ≡ st
  idle-received st h = rw h refl

  pub go-shifted : (b : Base) (own : Records) → GoWith b own → GoWith b (record own { streams = shifted d own.streams })
  unfolding shifted
  go-shifted b own g = go-map (shifted_one d) id-shifted idle-shifted b own g

  pub shifted-all : (b : Base) (own : Records) → GoWith b own → with_base b (record own { streams = shifted d own.streams }) ≡ record (with_base b own) { streams = shifted d (with_base b own).streams }
  unfolding shifted
  shifted-all b own g = map-all (shifted_one d) id-shifted idle-shifted b own g

  pub go-received : (b : Base) (own : Records) → GoWith b own → GoWith b (record own { streams = received d own.streams })
  unfolding received
  go-received b own g = go-map (received_one d) id-received idle-received b own g

  pub received-all : (b : Base) (own : Records) → GoWith b own → with_base b (record own { streams = received d own.streams }) ≡ record (with_base b own) { streams = received d (with_base b own).streams }
  unfolding received
  received-all b own g = map-all (received_one d) id-received idle-received b own g

-- ---- those that pass a test, of those that pass another

filter-within : (s t : Stream → Bool) → ((st : Stream) → s st ≡ false → t st ≡ false) → (rs : List Stream) → filter t (filter s rs) ≡ filter t rs
filter-within s t less [] = refl
filter-within s t less (x ∷ xs) = by (s x) refl (filter-within s t less xs)
  where
    by : (b : Bool) → s x ≡ b → filter t (filter s xs) ≡ filter t xs → filter t (cond b (x ∷ filter s xs) (filter s xs)) ≡ cond (t x) (x ∷ filter t xs) (filter t xs)
    by true e rest = rw rest refl
    by false e rest = rw (less x e) rest

pub filter-twice : (t : Stream → Bool) (rs : List Stream) → filter t (filter t rs) ≡ filter t rs
filter-twice t rs = filter-within t t (λ st e. e) rs

pub ids-within : (s t : Stream → Bool) → ((st : Stream) → s st ≡ false → t st ≡ false) → (rs : List Stream) → ids_of t (filter s rs) ≡ ids_of t rs
ids-within s t less rs = sym (ids-filter t (filter s rs)) ∙ ap (map id_of) (filter-within s t less rs) ∙ ids-filter t rs

-- ---- one's own records change

pub go-added : (b : Base) (own : Records) (st : Stream) → GoWith b own → st.id % 2 ≡ 1 → own.last < st.id → GoWith b (added st own)
go-added b own st g odd above = record {
  own_rising = rising-push 0 own.last own.streams st g.own_rising (omega arith) above odd;
  base_brief = g.base_brief;
  is_joined = joined-push b.records b.front own.streams own.last st g.is_joined above odd;
}

-- where there was memory for it, and where not
pub go-added-or : {E : Type 0} (b : Base) (own new : Records) (st : Stream) (r : Result (Unit {0}) E) → OnOk r (new ≡ added st own) → OnErr r (new ≡ own) → GoWith b own → st.id % 2 ≡ 1 → own.last < st.id → GoWith b new
go-added-or b own new st (Ok x) ok err g odd above = subst (λ (v : Records). GoWith b v) (sym ok) (go-added b own st g odd above)
go-added-or b own new st (Err e) ok err g odd above = subst (λ (v : Records). GoWith b v) (sym err) g

pub added-all : (b : Base) (own : Records) (st : Stream) → GoWith b own → with_base b (added st own) ≡ added st (with_base b own)
added-all b own st g =
    let more = joined-append b.records b.front own.streams (st ∷ []) g.is_joined.within in
    ap (λ (rs : List Stream). let r : Records = record { streams = rs; last = st.id } in r) more

pub go-put : (b : Base) (own : Records) (st old : Stream) → GoWith b own → record_of own.streams st.id ≡ Some old → GoWith b (record own { streams = put st own.streams })
go-put b own st old g f = record {
  own_rising = rising-put 0 own.last own.streams st old g.own_rising f;
  base_brief = g.base_brief;
  is_joined = joined-put g.is_joined st old f;
}

pub put-all : (b : Base) (own : Records) (st old : Stream) → GoWith b own → record_of own.streams st.id ≡ Some old
    → with_base b (record own { streams = put st own.streams }) ≡ record (with_base b own) { streams = put st (with_base b own).streams }
put-all b own st old g f = ap (λ (rs : List Stream). let r : Records = record { streams = rs; last = own.last } in r) (sym (put-joined g.is_joined st old f))

-- ---- where no stream has been opened

pub go-none : GoWith (record { records = []; front = 0 }) no_records
go-none = record { own_rising = tt; base_brief = tt; is_joined = record { within = omega arith; base_rising = tt; known = tt; closed = tt; rising = tt } }
