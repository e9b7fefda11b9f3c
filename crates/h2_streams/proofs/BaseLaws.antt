-- The first records, in brief: what is found in them, what is written, and what becomes of them where the others are put in
-- brief too, or those of an earlier time are made of them.
use Rattle.std.proofs.Common.{◌≡◌, ℕ, zero, suc, ◌+◌, ◌-◌, ◌<◌, ◌≤◌, ◌%◌, Bool, true, false, cond, eqb, map, take, drop, List, [], ◌∷◌, ◌++◌, length, Some, None, Option, refl, ap, ◌∙◌, sym, subst, arith, true≢false, drop_of_length-le, nat_lt, Bor, not, ◌&&◌, ◌||◌}
use Rattle.std.proofs.lemmas.List.{append-nil, drop-map, length-map, map-append, take-map, take_all}
use Rattle.std.specs.Prelude.{slice_get, unwrap_or}
use Rattle.std.specs.List.{filter}
use Rattle.std.specs.Option.{is_some, option_copied, option_map}
use Rattle.h2_spec.specs.declared.streams.Stream.{Stream}
use Rattle.h2_spec.specs.declared.streams.StreamState.{StreamState}
use Rattle.h2_spec.specs.declared.streams.StreamState.TheVariants.{Idle}
use Rattle.h2_spec.specs.Stream.{AreRising, Records, is_live, kind_of, not_live, put, record_of, recorded, stream_at}
use Rattle.h2_streams.specs.Brief.{AreBrief, IsBrief, brief}
use Rattle.h2_streams.specs.Joined.{AreIn, AreKept, Base, GoWith, IsJoined, joined, with_base}
use Rattle.h2_streams.specs.Kept.{Rise, lives}
use Rattle.h2_streams.specs.Put.{can_become, is_closed}
use Rattle.h2_streams.specs.Rebuilt.{AreKnown, AreOthersClosed, as_in}
use Rattle.h2_streams.proofs.BriefLaws.{brief-all}
use Rattle.h2_streams.proofs.JoinedEntries.{in-behind, in-known, none-front}
use Rattle.h2_streams.proofs.JoinedLaws.{record-map, rise-map}
use Rattle.h2_streams.proofs.JoinedPut.{as_in-own, at-joined, at-rest, found-own, found-shared, get-dropped, put-first, rising-front, same-front, shared-found}
use Rattle.h2_streams.proofs.PlaceLaws.{live-found, recorded-found, rise, rising-put}
use Rattle.h2_streams.proofs.RebuiltLaws.{IsContinued, as_in-none, continues-closed, eqb-other, eqb-same, found-above, known-put, none-some, rise-filter, rise-put, rising-rebuilt}
use Rattle.h2_streams.proofs.SharedLaws.{filter-all}

-- ---- what is at a place is found

at-found : (low : ℕ) (rs : List Stream) (i : ℕ) (st : Stream) → Rise low rs → slice_get rs i ≡ Some st → record_of rs st.id ≡ Some st
at-found low [] i st h e = absurd (none-some st e)
at-found low (x ∷ xs) zero st h e =
    let same : x ≡ st = cc in
    subst (λ (y : Stream). record_of (x ∷ xs) y.id ≡ Some y) same (rw (eqb-same x.id x.id refl) refl)
at-found low (x ∷ xs) (suc i) st h e =
    let more = at-found x.id xs i st h.1 e in
    rw (eqb-other x.id st.id (found-above x.id st.id xs h.1 (ap is_some more))) more

get-within : (rs : List Stream) (i : ℕ) (st : Stream) → slice_get rs i ≡ Some st → i < length rs
get-within [] i st e = absurd (none-some st e)
get-within (x ∷ xs) zero st e = omega arith
get-within (x ∷ xs) (suc i) st e = let rest = get-within xs i st e in omega (arith, rest)

get-beyond : (rs : List Stream) (i : ℕ) → slice_get rs i ≡ None → length rs ≤ i
get-beyond [] i e = omega arith
get-beyond (x ∷ xs) zero e = cc
get-beyond (x ∷ xs) (suc i) e = let rest = get-beyond xs i e in omega (arith, rest)

-- identifiers rise, so the last is no less than their number
pub rising-length : (low last : ℕ) (rs : List Stream) → AreRising low last rs → length rs ≤ last - low
rising-length low last [] h = omega arith
rising-length low last (x ∷ xs) h =
    let rest = rising-length x.id last xs h.3 in
    let over = h.0 in
    let within = h.2 in
    omega (arith, rest, over, within)

-- at the place of one in brief is one's own of the same stream, or else it
pub at-brief : {base own : List Stream} {n last : ℕ} → IsJoined base n own last → (i : ℕ) (st : Stream) → slice_get base i ≡ Some st → Some (unwrap_or (record_of own st.id) st) ≡ slice_get (joined base n own) i
at-brief {base} {own} {n} {last} j i st e =
    let there = at-joined base own n i (get-within base i st e) ∙ ap (option_map (as_in (take n own))) e in
    sym (there ∙ ap Some (as_in-own j st (at-found 0 base i st j.base_rising e)))

-- and after those it is one's own
pub at-own : (base own : List Stream) (n i : ℕ) → slice_get base i ≡ None → slice_get (drop n own) (i - length base) ≡ slice_get (joined base n own) i
at-own base own n i e = get-dropped n own (i - length base) ∙ sym (at-rest base own n i (get-beyond base i e))

-- ---- what is found in one's own

pub the-one : (o : Option Stream) → is_some o ≡ true → (st : Stream) × (o ≡ Some st)
the-one None k = absurd (true≢false (sym k))
the-one (Some st) k = (st, refl)

-- a stream is as its record
stream-as : (last id : ℕ) (xs ys : List Stream) → record_of xs id ≡ record_of ys id → stream_at last xs id ≡ stream_at last ys id
unfolding stream_at
stream-as last id xs ys e = ap (λ (o : Option Stream). cond (eqb (id % 2) 0) (not_live id Idle) (cond (nat_lt last id) (not_live id Idle) (recorded id o))) e

pub own-stream : (b : Base) (own : Records) → GoWith b own → (id : ℕ) → is_some (record_of own.streams id) ≡ true → stream_at (with_base b own).last (with_base b own).streams id ≡ stream_at own.last own.streams id
own-stream b own g id k =
    let st = the-one (record_of own.streams id) k in
    stream-as own.last id (joined b.records b.front own.streams) own.streams (found-own g.is_joined id st.0 st.1 ∙ sym st.1)

closed-found : (front base : List Stream) (id : ℕ) (st : Stream) → AreOthersClosed front base → record_of front id ≡ None → record_of base id ≡ Some st → is_live st.kind ≡ false
closed-found front [] id st o f e = absurd (none-some st e)
closed-found front (x ∷ xs) id st o f e = by (eqb x.id id) refl e (closed-found front xs id st o.1 f)
  where
    by : (b : Bool) → eqb x.id id ≡ b → cond b (Some x) (record_of xs id) ≡ Some st → (record_of xs id ≡ Some st → is_live st.kind ≡ false) → is_live st.kind ≡ false
    by true t e more =
        let same : x ≡ st = cc in
        let here : record_of front x.id ≡ None = ap (record_of front) (Rattle.h2_streams.proofs.PlaceLaws.eqb-same x.id id t) ∙ f in
        ap (λ (y : Stream). is_live y.kind) (sym same) ∙ o.0 here
    by false t e more = more e

-- a live stream has a record of one's own
pub live-own : (b : Base) (own : Records) → GoWith b own → (id : ℕ) → is_live (kind_of (with_base b own).last (with_base b own).streams id) ≡ true → is_some (record_of own.streams id) ≡ true
live-own b own g id live = by (record_of own.streams id) refl
  where
    all : List Stream
    all = (with_base b own).streams

    by : (o : Option Stream) → record_of own.streams id ≡ o → is_some o ≡ true
    by (Some st) e = refl
    by None e =
        let found : record_of b.records id ≡ Some (stream_at own.last all id) = sym (found-shared b.records own.streams b.front id e) ∙ live-found own.last all id live in
        let closed = closed-found (take b.front own.streams) b.records id (stream_at own.last all id) g.is_joined.closed (none-front b.front own.streams id e) found in
        absurd (true≢false (sym live ∙ closed))

-- ---- records put in brief

brief-id : (st : Stream) → (brief st).id ≡ st.id
brief-id st = refl

as_in-brief : (cs rs : List Stream) → AreOthersClosed cs rs → AreBrief rs → map (as_in cs) (map brief rs) ≡ map (as_in cs) rs
as_in-brief cs [] o h = refl
as_in-brief cs (x ∷ xs) o h = rw (by (record_of cs x.id) refl, as_in-brief cs xs o.1 h.1) refl
  where
    by : (p : Option Stream) → record_of cs x.id ≡ p → unwrap_or p (brief x) ≡ unwrap_or p x
    by None e = sym (h.0 (o.0 e))
    by (Some y) e = refl

known-brief : (rs cs : List Stream) → AreKnown rs cs → AreKnown (map brief rs) cs
known-brief rs [] k = tt
known-brief rs (c ∷ cs) k = (by (record_of rs c.id) (record-map brief brief-id rs c.id) k.0, known-brief rs cs k.1)
  where
    by : (o : Option Stream) → record_of (map brief rs) c.id ≡ option_map brief o → is_some o ≡ true → is_some (record_of (map brief rs) c.id) ≡ true
    by None e k = absurd (true≢false (sym k))
    by (Some x) e k = ap is_some e

others-brief : (cs rs : List Stream) → AreOthersClosed cs rs → AreOthersClosed cs (map brief rs)
others-brief cs [] o = tt
others-brief cs (x ∷ xs) o = (o.0, others-brief cs xs o.1)

-- those of which nothing is counted are the same in brief
pub joined-brief : (rs : List Stream) (n : ℕ) (cs : List Stream) (last : ℕ) → IsJoined rs n cs last → AreBrief rs → (joined (map brief rs) n cs ≡ joined rs n cs) × IsJoined (map brief rs) n cs last
joined-brief rs n cs last j h = (
  same,
  record {
    within = j.within;
    base_rising = rise-map brief brief-id 0 rs j.base_rising;
    known = known-brief rs (take n cs) j.known;
    closed = others-brief (take n cs) rs j.closed;
    rising = subst (λ (xs : List Stream). AreRising 0 last xs) (sym same) j.rising;
  },
)
  where
    same : joined (map brief rs) n cs ≡ joined rs n cs
    same = ap (λ (xs : List Stream). xs ++ drop n cs) (as_in-brief (take n cs) rs j.closed h)

-- the front is written in brief, and the rest put after it
as-brief : (front base : List Stream) → AreOthersClosed front base → AreBrief base → map (as_in (map brief front)) base ≡ map brief (map (as_in front) base)
as-brief front [] o h = refl
as-brief front (x ∷ xs) o h = rw (record-map brief brief-id front x.id, as-brief front xs o.1 h.1) (ap (λ (y : Stream). y ∷ map brief (map (as_in front) xs)) (by (record_of front x.id) refl))
  where
    by : (p : Option Stream) → record_of front x.id ≡ p → unwrap_or (option_map brief p) x ≡ brief (unwrap_or p x)
    by None e = h.0 (o.0 e)
    by (Some y) e = refl

pub brief-joined : {base own : List Stream} {n last : ℕ} → IsJoined base n own last → AreBrief base → joined base n (map brief own) ≡ map brief (joined base n own)
brief-joined {base} {own} {n} {last} j h =
    ap (λ (cs : List Stream). map (as_in cs) base ++ drop n (map brief own)) (take-map brief n own)
    ∙ ap (λ (rs : List Stream). rs ++ drop n (map brief own)) (as-brief (take n own) base j.closed h)
    ∙ ap (λ (rs : List Stream). map brief (map (as_in (take n own)) base) ++ rs) (drop-map brief n own)
    ∙ sym (map-append brief (map (as_in (take n own)) base) (drop n own))

-- ---- nothing is counted on what is not live, in all

found-brief : (rs : List Stream) (id : ℕ) (st : Stream) → AreBrief rs → record_of rs id ≡ Some st → IsBrief st
found-brief [] id st h e = absurd (none-some st e)
found-brief (x ∷ xs) id st h e = by (eqb x.id id) e (found-brief xs id st h.1)
  where
    by : (b : Bool) → cond b (Some x) (record_of xs id) ≡ Some st → (record_of xs id ≡ Some st → IsBrief st) → IsBrief st
    by true e more = let same : x ≡ st = cc in subst IsBrief same h.0
    by false e more = more e

brief-take : (n : ℕ) (rs : List Stream) → AreBrief rs → AreBrief (take n rs)
brief-take zero rs h = tt
brief-take (suc n) [] h = tt
brief-take (suc n) (x ∷ xs) h = (h.0, brief-take n xs h.1)

brief-drop : (n : ℕ) (rs : List Stream) → AreBrief rs → AreBrief (drop n rs)
brief-drop zero rs h = h
brief-drop (suc n) [] h = tt
brief-drop (suc n) (x ∷ xs) h = brief-drop n xs h.1

brief-both : (xs ys : List Stream) → AreBrief xs → AreBrief ys → AreBrief (xs ++ ys)
brief-both [] ys h k = k
brief-both (x ∷ xs) ys h k = (h.0, brief-both xs ys h.1 k)

brief-as : (front base : List Stream) → AreBrief front → AreBrief base → AreBrief (map (as_in front) base)
brief-as front [] h k = tt
brief-as front (x ∷ xs) h k = (by (record_of front x.id) refl, brief-as front xs h k.1)
  where
    by : (p : Option Stream) → record_of front x.id ≡ p → IsBrief (unwrap_or p x)
    by None e = k.0
    by (Some y) e = found-brief front x.id y h e

brief-all-records : (b : Base) (own : Records) → GoWith b own → AreBrief own.streams → AreBrief (with_base b own).streams
brief-all-records b own g h =
    brief-both (map (as_in (take b.front own.streams)) b.records) (drop b.front own.streams) (brief-as (take b.front own.streams) b.records (brief-take b.front own.streams h) g.base_brief) (brief-drop b.front own.streams h)

-- ---- the live ones are left in one's own list

-- one's own are all in the place of others, and are as those
joined-same : (base own : List Stream) (n : ℕ) → Rise 0 base → n ≡ length own → AreIn base own → joined base n own ≡ base
joined-same base own n h same is =
    let front : take n own ≡ own = take_all n own (omega (arith, same)) in
    let rest : drop n own ≡ [] = drop_of_length-le own (omega (arith, same)) in
    ap (λ (cs : List Stream). map (as_in cs) base ++ drop n own) front ∙ ap (λ (rs : List Stream). rs ++ drop n own) (same-front own base h is) ∙ ap (λ (rs : List Stream). base ++ rs) rest ∙ append-nil base

in-filter : (t : Stream → Bool) (low : ℕ) (rs : List Stream) → Rise low rs → AreIn rs (filter t rs)
in-filter t low [] h = tt
in-filter t low (x ∷ xs) h = by (t x) (in-behind x xs (filter t xs) (rise-filter t x.id xs h.1) (in-filter t x.id xs h.1))
  where
    by : (b : Bool) → AreIn (x ∷ xs) (filter t xs) → AreIn (x ∷ xs) (cond b (x ∷ filter t xs) (filter t xs))
    by true k = (rw (eqb-same x.id x.id refl) refl, k)
    by false k = k

continues-same : (t : Stream → Bool) (rs : List Stream) → IsContinued t rs rs
continues-same t [] = tt
continues-same t (x ∷ xs) = (refl, λ e. refl, continues-same t xs)

live-closed : (rs : List Stream) → Rise 0 rs → AreOthersClosed (filter lives rs) rs
live-closed rs h = subst (λ (ys : List Stream). AreOthersClosed (filter lives rs) ys) (take_all (length rs) rs (omega arith)) (continues-closed lives 0 rs rs (λ st e. e) h (continues-same lives rs))

-- the live ones rise as all
pub live-rising : (last : ℕ) (rs : List Stream) → AreRising 0 last rs → AreRising 0 last (filter lives rs)
live-rising last rs h =
    let order = rise 0 last rs h in
    rising-front 0 0 last rs (filter lives rs) h (rise-filter lives 0 rs order) (in-known rs (filter lives rs) (in-filter lives 0 rs order))

live-joined : (last : ℕ) (rs : List Stream) → AreRising 0 last rs → (n : ℕ) → n ≡ length (filter lives rs) → (joined rs n (filter lives rs) ≡ rs) × IsJoined rs n (filter lives rs) last
live-joined last rs h n same =
    let order = rise 0 last rs h in
    let is = in-filter lives 0 rs order in
    let all = joined-same rs (filter lives rs) n order same is in
    let front : take n (filter lives rs) ≡ filter lives rs = take_all n (filter lives rs) (omega (arith, same)) in (
      all,
      record {
        within = omega (arith, same);
        base_rising = order;
        known = subst (λ (cs : List Stream). AreKnown rs cs) (sym front) (in-known rs (filter lives rs) is);
        closed = subst (λ (cs : List Stream). AreOthersClosed cs rs) (sym front) (live-closed rs order);
        rising = subst (λ (ys : List Stream). AreRising 0 last ys) (sym all) h;
      },
    )

pub go-settled : (b c : Base) (own live : Records) → GoWith b own → AreBrief own.streams → live ≡ record own { streams = filter lives own.streams } → c.records ≡ map brief (with_base b own).streams → c.front ≡ length live.streams
    → (with_base c live ≡ with_base b own) × GoWith c live
go-settled b c own live g h is records front =
    let all = (with_base b own).streams in
    let few : filter lives all ≡ filter lives own.streams = filter-all lives (λ st e. e) b own g in
    let many : c.front ≡ length (filter lives all) = front ∙ ap (λ (r : Records). length r.streams) is ∙ ap length (sym few) in
    let whole = live-joined own.last all g.is_joined.rising c.front many in
    let short = joined-brief all c.front (filter lives all) own.last whole.1 (brief-all-records b own g h) in
    let C : Base = record { records = map brief all; front = c.front } in
    let L : Records = record { streams = filter lives all; last = own.last } in
    let go : GoWith C L = record {
      own_rising = live-rising own.last all g.is_joined.rising;
      base_brief = brief-all all;
      is_joined = short.1;
    } in
    let same : with_base C L ≡ with_base b own = ap (λ (rs : List Stream). let r : Records = record { streams = rs; last = own.last } in r) (short.0 ∙ whole.0) in
    let base : C ≡ c = ap (λ (rs : List Stream). let x : Base = record { records = rs; front = c.front } in x) (sym records) in
    let left : L ≡ live = ap (λ (rs : List Stream). let r : Records = record { streams = rs; last = own.last } in r) few ∙ sym is in
    subst (λ (x : Base). (with_base x live ≡ with_base b own) × GoWith x live) base (subst (λ (r : Records). (with_base C r ≡ with_base b own) × GoWith C r) left (same, go))

-- ---- where all of one's own are in brief as they are

kept-in : (base own : List Stream) → AreKept base own → AreIn base (map brief own)
kept-in base [] k = tt
kept-in base (x ∷ xs) k = (k.0, kept-in base xs k.1)

pub kept-settled : {base own : List Stream} {n last : ℕ} → IsJoined base n own last → AreBrief base → n ≡ length own → AreKept base own → base ≡ map brief (joined base n own)
kept-settled {base} {own} {n} j h same k =
    sym (joined-same base (map brief own) n j.base_rising (same ∙ sym (length-map own brief)) (kept-in base own k)) ∙ brief-joined j h

-- ---- where no record is in brief

pub go-whole : (own : Records) → AreRising 0 own.last own.streams → GoWith (record { records = []; front = 0 }) own
go-whole own rising = record { own_rising = rising; base_brief = tt; is_joined = record { within = omega arith; base_rising = tt; known = tt; closed = tt; rising = rising } }

-- after a record was put
pub go-put-back : (b : Base) (own : Records) (st : Stream) → GoWith b own → can_become (kind_of (with_base b own).last (with_base b own).streams st.id) st.kind ≡ true
    → GoWith (record { records = []; front = 0 }) (record (with_base b own) { streams = put st (with_base b own).streams })
go-put-back b own st g can =
    let all = (with_base b own).streams in
    let old = recorded-found own.last all st.id st.kind can in
    go-whole (record { streams = put st all; last = own.last }) (rising-put 0 own.last all st old.0 g.is_joined.rising old.1)

-- ---- the records at an earlier time

module _ (base changed : List Stream) (last : ℕ) (rising : AreRising 0 last base) (order : Rise 0 changed) (known : AreKnown base changed) (closed : AreOthersClosed changed base) where
  all-changed : take (length changed) changed ≡ changed
  all-changed = take_all (length changed) changed (omega arith)

  joined-rebuilt : joined base (length changed) changed ≡ map (as_in changed) base
  joined-rebuilt =
      ap (λ (cs : List Stream). map (as_in cs) base ++ drop (length changed) changed) all-changed
      ∙ ap (λ (rs : List Stream). map (as_in changed) base ++ rs) (drop_of_length-le changed (omega arith)) ∙ append-nil (map (as_in changed) base)

  is-rebuilt : IsJoined base (length changed) changed last
  is-rebuilt = record {
    within = omega arith;
    base_rising = rise 0 last base rising;
    known = subst (λ (cs : List Stream). AreKnown base cs) (sym all-changed) known;
    closed = subst (λ (cs : List Stream). AreOthersClosed cs base) (sym all-changed) closed;
    rising = subst (λ (rs : List Stream). AreRising 0 last rs) (sym joined-rebuilt) (rising-rebuilt 0 last changed base rising);
  }

  -- the first ones are these in brief, and one's own are those that have changed
  pub go-rebuilt : AreBrief base
      → let b : Base = record { records = map brief base; front = length changed } in let own : Records = record { streams = changed; last = last } in
      (with_base b own ≡ record { streams = map (as_in changed) base; last = last }) × GoWith b own
  go-rebuilt bare =
      let short = joined-brief base (length changed) changed last is-rebuilt bare in (
        ap (λ (rs : List Stream). let r : Records = record { streams = rs; last = last } in r) (short.0 ∙ joined-rebuilt),
        record {
          own_rising = rising-front 0 0 last base changed rising order known;
          base_brief = brief-all base;
          is_joined = short.1;
        },
      )

-- that many of all
pub first-brief : (n : ℕ) (b : Base) (own : Records) → GoWith b own → AreBrief own.streams → AreBrief (take n (with_base b own).streams)
first-brief n b own g h = brief-take n (with_base b own).streams (brief-all-records b own g h)

-- ---- what is found by a reference

pub copied-some : (o : Option (Bor Stream)) {p : Option Stream} → option_copied o ≡ p → is_some o ≡ true → is_some p ≡ true
copied-some None e k = absurd (true≢false (sym k))
copied-some (Some st) e k = sym (ap is_some e)

pub copied-none : (o : Option (Bor Stream)) {p : Option Stream} → option_copied o ≡ p → is_some o ≡ false → p ≡ None
copied-none None e k = sym e
copied-none (Some st) e k = absurd (true≢false k)
