-- Records of which the first are shared: what is found, counted or changed in one's own is so in all.
use Rattle.std.proofs.Common.{◌≡◌, ℕ, zero, suc, ◌<◌, ◌≤◌, ◌%◌, Bool, true, false, cond, eqb, map, filter, find, take, drop, List, [], ◌∷◌, ◌++◌, length, Some, None, Option, refl, ap, ◌∙◌, sym, subst, arith, true≢false}
use Rattle.std.proofs.lemmas.Bool.{eqb-true}
use Rattle.std.proofs.lemmas.List.{append_assoc, drop-append-le, drop-map, length-append, length-map, map-append, take-append-drop, take-append-le, take-map}
use Rattle.std.proofs.lemmas.List.Elements.{filter-append}
use Rattle.std.proofs.lemmas.List.Sums.{length-filter}
use Rattle.std.proofs.lemmas.Map.Views.{any-filter_same}
use Rattle.std.specs.Prelude.{unwrap_or}
use Rattle.std.specs.List.{list_any}
use Rattle.std.specs.Option.{is_some, option_map}
use Rattle.h2_spec.specs.declared.streams.Stream.{Stream}
use Rattle.h2_spec.specs.Stream.{AreRising, id_of, is_live, live_count, record_of}
use Rattle.h2_streams.specs.Joined.{IsJoined, joined}
use Rattle.h2_streams.specs.Kept.{Rise, ids_of, lives}
use Rattle.h2_streams.specs.Rebuilt.{AreKnown, AreOthersClosed, as_in}
use Rattle.h2_streams.proofs.PlaceLaws.{none-below, rising-push}
use Rattle.h2_streams.proofs.RebuiltLaws.{as_in-below, as_in-here, as_in-none, eqb-same, found-above, known-behind, others-behind, rise-from}

-- ---- a test that no closed stream passes

-- of the shared records, with those of the front in their places, the front alone has what passes
pub filter-base : (t : Stream → Bool) → ((st : Stream) → is_live st.kind ≡ false → t st ≡ false) → (low : ℕ) (front base : List Stream) → Rise low base → Rise low front → AreKnown base front → AreOthersClosed front base
    → filter t (map (as_in front) base) ≡ filter t front
filter-base t idle low [] [] h r k o = refl
filter-base t idle low (c ∷ cs) [] h r k o = absurd (true≢false (sym k.0))
filter-base t idle low [] (x ∷ xs) h r k o = rw (idle x (o.0 refl)) (filter-base t idle x.id [] xs h.1 tt tt o.1)
filter-base t idle low (c ∷ cs) (x ∷ xs) h r k o = at (eqb x.id c.id) refl (filter-base t idle x.id cs xs h.1) (filter-base t idle x.id (c ∷ cs) xs h.1)
  where
    at : (b : Bool) → eqb x.id c.id ≡ b
        → (Rise x.id cs → AreKnown xs cs → AreOthersClosed cs xs → filter t (map (as_in cs) xs) ≡ filter t cs)
        → (Rise x.id (c ∷ cs) → AreKnown xs (c ∷ cs) → AreOthersClosed (c ∷ cs) xs → filter t (map (as_in (c ∷ cs)) xs) ≡ filter t (c ∷ cs))
        → filter t (map (as_in (c ∷ cs)) (x ∷ xs)) ≡ filter t (c ∷ cs)
    at true e taken left =
        let same = eqb-true x.id c.id e in
        let above : Rise x.id cs = rise-from x.id c.id cs (omega (arith, same)) r.1 in
        let rest = taken above (known-behind x xs cs above k.1) (others-behind c cs x.id xs (omega (arith, same)) h.1 o.1) in
        rw (as_in-here c cs x (eqb-same c.id x.id (sym same)), as_in-below c cs x.id xs (omega (arith, same)) h.1) (ap (λ ys. cond (t c) (c ∷ ys) ys) rest)
    at false e taken left =
        let there : is_some (record_of xs c.id) ≡ true = rw e at k.0 in
        let over = found-above x.id c.id xs h.1 there in
        let above : Rise x.id (c ∷ cs) = (over, r.1) in
        let none : record_of (c ∷ cs) x.id ≡ None = none-below x.id x.id (c ∷ cs) (omega arith) above in
        let rest = left above (there, known-behind x xs cs (rise-from x.id c.id cs (omega (arith, over)) r.1) k.1) o.1 in
        rw (as_in-none (c ∷ cs) x none, idle x (o.0 none)) rest

pub rise-take : (low n : ℕ) (rs : List Stream) → Rise low rs → Rise low (take n rs)
rise-take low zero rs h = tt
rise-take low (suc n) [] h = tt
rise-take low (suc n) (x ∷ xs) h = (h.0, rise-take x.id n xs h.1)

-- what is found by such a test, given the list of all that pass it
pub find-filter : (t : Stream → Bool) (rs : List Stream) → find t (filter t rs) ≡ find t rs
find-filter t [] = refl
find-filter t (x ∷ xs) = by (t x) refl (find-filter t xs)
  where
    by : (b : Bool) → t x ≡ b → find t (filter t xs) ≡ find t xs → find t (cond b (x ∷ filter t xs) (filter t xs)) ≡ cond b (Some x) (find t xs)
    by true e rest = rw e refl
    by false e rest = rest

pub any-filter : (t : Stream → Bool) (rs : List Stream) → list_any t (filter t rs) ≡ list_any t rs
any-filter t rs = any-filter_same t t true (λ st e. e) rs

pub ids-filter : (t : Stream → Bool) (rs : List Stream) → map id_of (filter t rs) ≡ ids_of t rs
ids-filter t [] = refl
ids-filter t (x ∷ xs) = by (t x) (ids-filter t xs)
  where
    by : (b : Bool) → map id_of (filter t xs) ≡ ids_of t xs → map id_of (cond b (x ∷ filter t xs) (filter t xs)) ≡ cond b (x.id ∷ ids_of t xs) (ids_of t xs)
    by true rest = ap (λ ids. x.id ∷ ids) rest
    by false rest = rest

module _ (t : Stream → Bool) (idle : (st : Stream) → is_live st.kind ≡ false → t st ≡ false) (base : List Stream) (n : ℕ) (own : List Stream) (last : ℕ) (is : IsJoined base n own last) (order : Rise 0 own) where
  -- what passes is among one's own
  pub filter-joined : filter t (joined base n own) ≡ filter t own
  filter-joined =
      filter-append t (map (as_in (take n own)) base) (drop n own)
      ∙ ap (λ ys. ys ++ filter t (drop n own)) (filter-base t idle 0 (take n own) base is.base_rising (rise-take 0 n own order) is.known is.closed)
      ∙ sym (filter-append t (take n own) (drop n own)) ∙ ap (filter t) (take-append-drop n own)

  pub find-joined : find t (joined base n own) ≡ find t own
  find-joined = sym (find-filter t (joined base n own)) ∙ ap (find t) filter-joined ∙ find-filter t own

  pub any-joined : list_any t (joined base n own) ≡ list_any t own
  any-joined = sym (any-filter t (joined base n own)) ∙ ap (list_any t) filter-joined ∙ any-filter t own

  pub ids-joined : ids_of t (joined base n own) ≡ ids_of t own
  ids-joined = sym (ids-filter t (joined base n own)) ∙ ap (map id_of) filter-joined ∙ ids-filter t own

pub count-joined : (base : List Stream) (n : ℕ) (own : List Stream) (last : ℕ) → IsJoined base n own last → Rise 0 own → live_count (joined base n own) ≡ live_count own
count-joined base n own last is order = sym (length-filter lives (joined base n own)) ∙ ap length (filter-joined lives (λ st e. e) base n own last is order) ∙ length-filter lives own

-- ---- a change that leaves the identifiers, and the streams that are not live

module _ (f : Stream → Stream) (ids : (st : Stream) → (f st).id ≡ st.id) where
  pub record-map : (rs : List Stream) (id : ℕ) → record_of (map f rs) id ≡ option_map f (record_of rs id)
  record-map [] id = refl
  record-map (x ∷ xs) id = ap (λ i. cond (eqb i id) (Some (f x)) (record_of (map f xs) id)) (ids x) ∙ by (eqb x.id id) (record-map xs id)
    where
      by : (b : Bool) → record_of (map f xs) id ≡ option_map f (record_of xs id) → cond b (Some (f x)) (record_of (map f xs) id) ≡ option_map f (cond b (Some x) (record_of xs id))
      by true rest = refl
      by false rest = rest

  -- what has no record has had none
  none-map : (rs : List Stream) (id : ℕ) → record_of (map f rs) id ≡ None → record_of rs id ≡ None
  none-map rs id e = by (record_of rs id) (sym (record-map rs id) ∙ e)
    where
      by : (o : Option Stream) → option_map f o ≡ None → o ≡ None
      by None h = refl
      by (Some x) h = cc

  pub known-map : (rs cs : List Stream) → AreKnown rs cs → AreKnown rs (map f cs)
  known-map rs [] k = tt
  known-map rs (c ∷ cs) k = (rw (ids c) k.0, known-map rs cs k.1)

  pub others-map : (cs rs : List Stream) → AreOthersClosed cs rs → AreOthersClosed (map f cs) rs
  others-map cs [] o = tt
  others-map cs (x ∷ xs) o = (λ none. o.0 (none-map cs x.id none), others-map cs xs o.1)

  pub rising-map : (low last : ℕ) (rs : List Stream) → AreRising low last rs → AreRising low last (map f rs)
  rising-map low last [] h = tt
  rising-map low last (x ∷ xs) h = rw (ids x) (h.0, h.1, h.2, rising-map x.id last xs h.3)

  pub rise-map : (low : ℕ) (rs : List Stream) → Rise low rs → Rise low (map f rs)
  rise-map low [] h = tt
  rise-map low (x ∷ xs) h = rw (ids x) (h.0, rise-map x.id xs h.1)

  module _ (idle : (st : Stream) → is_live st.kind ≡ false → f st ≡ st) where
    as_in-map : (cs : List Stream) (st : Stream) → (record_of cs st.id ≡ None → is_live st.kind ≡ false) → f (as_in cs st) ≡ as_in (map f cs) st
    as_in-map cs st o = rw (record-map cs st.id) (by (record_of cs st.id) o)
      where
        by : (found : Option Stream) → (found ≡ None → is_live st.kind ≡ false) → f (unwrap_or found st) ≡ unwrap_or (option_map f found) st
        by None closed = idle st (closed refl)
        by (Some x) closed = refl

    -- the change of the shared records is that of the front
    pub map-base : (front base : List Stream) → AreOthersClosed front base → map f (map (as_in front) base) ≡ map (as_in (map f front)) base
    map-base front [] o = refl
    map-base front (x ∷ xs) o = rw (as_in-map front x o.0, map-base front xs o.1) refl

    module _ (base : List Stream) (n : ℕ) (own : List Stream) (last : ℕ) (is : IsJoined base n own last) where
      -- the change of all is that of one's own
      pub map-joined : map f (joined base n own) ≡ joined base n (map f own)
      map-joined =
          map-append f (map (as_in (take n own)) base) (drop n own)
          ∙ ap (λ ys. ys ++ map f (drop n own)) (map-base (take n own) base is.closed ∙ ap (λ cs. map (as_in cs) base) (sym (take-map f n own)))
          ∙ ap (λ ys. map (as_in (take n (map f own))) base ++ ys) (sym (drop-map f n own))

      pub joined-map : IsJoined base n (map f own) last
      joined-map = record {
        within = let same = length-map own f in let le = is.within in omega (arith, same, le);
        base_rising = is.base_rising;
        known = rw (take-map f n own) (known-map base (take n own) is.known);
        closed = rw (take-map f n own) (others-map (take n own) base is.closed);
        rising = subst (AreRising 0 last) map-joined (rising-map 0 last (joined base n own) is.rising);
      }

-- ---- one more record

pub joined-append : (base : List Stream) (n : ℕ) (own more : List Stream) → n ≤ length own → joined base n (own ++ more) ≡ joined base n own ++ more
joined-append base n own more le = rw (take-append-le n own more le, drop-append-le n own more le) (sym (append_assoc (map (as_in (take n own)) base) (drop n own) more))

pub joined-push : (base : List Stream) (n : ℕ) (own : List Stream) (last : ℕ) (st : Stream) → IsJoined base n own last → last < st.id → st.id % 2 ≡ 1 → IsJoined base n (own ++ st ∷ []) st.id
joined-push base n own last st is above odd = record {
  within = let le = is.within in let longer = length-append own (st ∷ []) in omega (arith, le, longer);
  base_rising = is.base_rising;
  known = rw (take-append-le n own (st ∷ []) is.within) is.known;
  closed = rw (take-append-le n own (st ∷ []) is.within) is.closed;
  rising = subst (AreRising 0 st.id) (sym (joined-append base n own (st ∷ []) is.within)) (rising-push 0 last (joined base n own) st is.rising (omega arith) above odd);
}
