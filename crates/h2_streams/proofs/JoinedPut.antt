-- Records of which the first are shared: what is found in them, what a write leaves, and what is at each place.
use Rattle.std.proofs.Common.{◌≡◌, ℕ, zero, suc, ◌+◌, ◌-◌, ◌<◌, ◌≤◌, ◌%◌, Bool, true, false, cond, eqb, map, take, drop, List, [], ◌∷◌, ◌++◌, length, Some, None, Option, refl, ap, ◌∙◌, sym, subst, arith, true≢false, take_at, drop_at, take-append-drop, length-take-le, length-append, length-drop}
use Rattle.std.proofs.lemmas.Bool.{eqb-true}
use Rattle.std.proofs.lemmas.List.{length-map}
use Rattle.std.proofs.lemmas.List.Folds.{find-append}
use Rattle.std.proofs.lemmas.Option.{slice_get-map}
use Rattle.std.specs.Prelude.{slice_get, unwrap_or}
use Rattle.std.specs.List.{AllByRecursion}
use Rattle.std.specs.Option.{is_some, option_map, option_or}
use Rattle.h2_spec.specs.declared.streams.Stream.{Stream}
use Rattle.h2_spec.specs.Stream.{AreRising, is_id, put, record_of}
use Rattle.h2_streams.specs.Joined.{IsJoined, joined}
use Rattle.h2_streams.specs.Kept.{Rise}
use Rattle.h2_streams.specs.Rebuilt.{AreKnown, AreOthersClosed, as_in}
use Rattle.h2_streams.proofs.PlaceLaws.{found-id, rise, rising-put}
use Rattle.h2_streams.proofs.RebuiltLaws.{as_in-id, eqb-other, eqb-same, flip, found-above, found-put, none-some}

-- ---- records that follow others

first-found : (xs ys : List Stream) (id : ℕ) (st : Stream) → record_of xs id ≡ Some st → record_of (xs ++ ys) id ≡ Some st
first-found xs ys id st e = find-append (is_id id) xs ys ∙ ap (λ o. option_or o (record_of ys id)) e

rest-found : (xs ys : List Stream) (id : ℕ) → record_of xs id ≡ None → record_of (xs ++ ys) id ≡ record_of ys id
rest-found xs ys id e = find-append (is_id id) xs ys ∙ ap (λ o. option_or o (record_of ys id)) e

more-found : (xs ys : List Stream) (id : ℕ) → is_some (record_of ys id) ≡ true → is_some (record_of (xs ++ ys) id) ≡ true
more-found xs ys id k = by (record_of xs id) refl
  where
    by : (o : Option Stream) → record_of xs id ≡ o → is_some (record_of (xs ++ ys) id) ≡ true
    by None e = ap is_some (rest-found xs ys id e) ∙ k
    by (Some x) e = ap is_some (first-found xs ys id x e)

-- where all rise, what is in the rest is not in the first
apart : (low id : ℕ) (xs ys : List Stream) → Rise low (xs ++ ys) → is_some (record_of ys id) ≡ true → record_of xs id ≡ None
apart low id [] ys h k = refl
apart low id (x ∷ xs) ys h k =
    let over = found-above x.id id (xs ++ ys) h.1 (more-found xs ys id k) in
    rw (eqb-other x.id id over) (apart x.id id xs ys h.1 k)

none-apart : (o : Option Stream) → (is_some o ≡ true → ⊥) → o ≡ None
none-apart None h = refl
none-apart (Some x) h = absurd (h refl)

-- and what is in the first is not in the rest
rest-none : (low id : ℕ) (xs ys : List Stream) (st : Stream) → Rise low (xs ++ ys) → record_of xs id ≡ Some st → record_of ys id ≡ None
rest-none low id xs ys st h f = none-apart (record_of ys id) (λ k. none-some st (sym (apart low id xs ys h k) ∙ f))

-- ---- records as they are in a front

as-found : (front rs : List Stream) (id : ℕ) → record_of (map (as_in front) rs) id ≡ option_map (as_in front) (record_of rs id)
as-found front [] id = refl
as-found front (x ∷ xs) id = rw (as_in-id front x) (by (eqb x.id id) (as-found front xs id))
  where
    by : (b : Bool) → record_of (map (as_in front) xs) id ≡ option_map (as_in front) (record_of xs id)
        → cond b (Some (as_in front x)) (record_of (map (as_in front) xs) id) ≡ option_map (as_in front) (cond b (Some x) (record_of xs id))
    by true e = refl
    by false e = e

known-found : (rs cs : List Stream) (id : ℕ) (st : Stream) → AreKnown rs cs → record_of cs id ≡ Some st → is_some (record_of rs id) ≡ true
known-found rs [] id st k f = absurd (none-some st f)
known-found rs (c ∷ cs) id st k f = at (eqb c.id id) refl f (known-found rs cs id st k.1)
  where
    at : (b : Bool) → eqb c.id id ≡ b → cond b (Some c) (record_of cs id) ≡ Some st → (record_of cs id ≡ Some st → is_some (record_of rs id) ≡ true) → is_some (record_of rs id) ≡ true
    at true e g more = subst (λ i. is_some (record_of rs i) ≡ true) (eqb-true c.id id e) k.0
    at false e g more = more g

-- a record of the shared ones is as the front has it
as-front : (base front : List Stream) (id : ℕ) (y : Stream) (o : Option Stream) → record_of base id ≡ Some y → record_of front id ≡ o → as_in front y ≡ unwrap_or o y
as-front base front id y o e f = ap (λ i. unwrap_or (record_of front i) y) (found-id base id y e) ∙ ap (λ p. unwrap_or p y) f

front-found : (base front : List Stream) (id : ℕ) (st : Stream) → AreKnown base front → record_of front id ≡ Some st → record_of (map (as_in front) base) id ≡ Some st
front-found base front id st k f = by (record_of base id) refl
  where
    by : (o : Option Stream) → record_of base id ≡ o → record_of (map (as_in front) base) id ≡ Some st
    by None e = absurd (true≢false (sym (known-found base front id st k f) ∙ ap is_some e))
    by (Some y) e = as-found front base id ∙ ap (option_map (as_in front)) e ∙ ap Some (as-front base front id y (Some st) e f)

pub shared-found : (base front : List Stream) (id : ℕ) → record_of front id ≡ None → record_of (map (as_in front) base) id ≡ record_of base id
shared-found base front id f = by (record_of base id) refl
  where
    by : (o : Option Stream) → record_of base id ≡ o → record_of (map (as_in front) base) id ≡ record_of base id
    by None e = as-found front base id ∙ ap (option_map (as_in front)) e ∙ sym e
    by (Some y) e = as-found front base id ∙ ap (option_map (as_in front)) e ∙ ap Some (as-front base front id y None e f) ∙ sym e

shared-none : (base front : List Stream) (id : ℕ) → record_of base id ≡ None → record_of (map (as_in front) base) id ≡ None
shared-none base front id e = as-found front base id ∙ ap (option_map (as_in front)) e

-- ---- what is found

-- what is found in one's own records is found in the front or in the rest
own-parts : (n : ℕ) (own : List Stream) (id : ℕ) → record_of (take n own ++ drop n own) id ≡ record_of own id
own-parts n own id = ap (λ (rs : List Stream). record_of rs id) (take-append-drop n own)

pub found-own : {base own : List Stream} {n last : ℕ} → IsJoined base n own last → (id : ℕ) (st : Stream) → record_of own id ≡ Some st → record_of (joined base n own) id ≡ Some st
found-own {base} {own} {n} {last} j id st f = by (record_of (take n own) id) refl
  where
    by : (o : Option Stream) → record_of (take n own) id ≡ o → record_of (joined base n own) id ≡ Some st
    by None e =
        let there : record_of (drop n own) id ≡ Some st = sym (rest-found (take n own) (drop n own) id e) ∙ own-parts n own id ∙ f in
        let none = apart 0 id (map (as_in (take n own)) base) (drop n own) (rise 0 last (joined base n own) j.rising) (ap is_some there) in
        rest-found (map (as_in (take n own)) base) (drop n own) id none ∙ there
    by (Some x) e =
        let there : record_of (take n own) id ≡ Some st = e ∙ sym (first-found (take n own) (drop n own) id x e) ∙ own-parts n own id ∙ f in
        first-found (map (as_in (take n own)) base) (drop n own) id st (front-found base (take n own) id st j.known there)

-- what one has not is in neither part
parts-none : (xs ys : List Stream) (id : ℕ) → record_of (xs ++ ys) id ≡ None → (record_of xs id ≡ None) × (record_of ys id ≡ None)
parts-none xs ys id f = by (record_of xs id) refl
  where
    by : (o : Option Stream) → record_of xs id ≡ o → (record_of xs id ≡ None) × (record_of ys id ≡ None)
    by None e = (e, sym (rest-found xs ys id e) ∙ f)
    by (Some x) e = absurd (none-some x (sym f ∙ first-found xs ys id x e))

pub found-shared : (base own : List Stream) (n id : ℕ) → record_of own id ≡ None → record_of (joined base n own) id ≡ record_of base id
found-shared base own n id f = by (record_of base id) refl
  where
    none : (record_of (take n own) id ≡ None) × (record_of (drop n own) id ≡ None)
    none = parts-none (take n own) (drop n own) id (own-parts n own id ∙ f)

    by : (o : Option Stream) → record_of base id ≡ o → record_of (joined base n own) id ≡ record_of base id
    by None e = rest-found (map (as_in (take n own)) base) (drop n own) id (shared-none base (take n own) id e) ∙ none.1 ∙ sym e
    by (Some y) e = first-found (map (as_in (take n own)) base) (drop n own) id y (shared-found base (take n own) id none.0 ∙ e) ∙ sym e

pub found-none : (base own : List Stream) (n id : ℕ) → record_of own id ≡ None → record_of base id ≡ None → record_of (joined base n own) id ≡ None
found-none base own n id f g = found-shared base own n id f ∙ g

-- a record of the shared ones is not in the rest of one's own
pub as_in-own : {base own : List Stream} {n last : ℕ} → IsJoined base n own last → (st : Stream) → record_of base st.id ≡ Some st → as_in (take n own) st ≡ unwrap_or (record_of own st.id) st
as_in-own {base} {own} {n} {last} j st f = by (record_of (take n own) st.id) refl
  where
    by : (o : Option Stream) → record_of (take n own) st.id ≡ o → as_in (take n own) st ≡ unwrap_or (record_of own st.id) st
    by None e =
        let there : record_of (map (as_in (take n own)) base) st.id ≡ Some st = shared-found base (take n own) st.id e ∙ f in
        let none : record_of (drop n own) st.id ≡ None = rest-none 0 st.id (map (as_in (take n own)) base) (drop n own) st (rise 0 last (joined base n own) j.rising) there in
        let own-none : record_of own st.id ≡ None = sym (own-parts n own st.id) ∙ rest-found (take n own) (drop n own) st.id e ∙ none in
        ap (λ o. unwrap_or o st) (e ∙ sym own-none)
    by (Some x) e = ap (λ o. unwrap_or o st) (e ∙ sym (first-found (take n own) (drop n own) st.id x e) ∙ own-parts n own st.id)

-- ---- a record is put

pub length-put : (st : Stream) (rs : List Stream) → is_some (record_of rs st.id) ≡ true → length (put st rs) ≡ length rs
length-put st [] k = absurd (true≢false (sym k))
length-put st (x ∷ xs) k = at (eqb x.id st.id) k (length-put st xs)
  where
    at : (b : Bool) → is_some (cond b (Some x) (record_of xs st.id)) ≡ true → (is_some (record_of xs st.id) ≡ true → length (put st xs) ≡ length xs) → length (cond b (st ∷ xs) (x ∷ put st xs)) ≡ suc (length xs)
    at true k more = refl
    at false k more = ap suc (more k)

-- it is found where it was put
put-here : (st : Stream) (rs : List Stream) → record_of (put st rs) st.id ≡ Some st
put-here st [] = rw (eqb-same st.id st.id refl) refl
put-here st (x ∷ xs) = at (eqb x.id st.id) refl (put-here st xs)
  where
    at : (b : Bool) → eqb x.id st.id ≡ b → record_of (put st xs) st.id ≡ Some st → record_of (cond b (st ∷ xs) (x ∷ put st xs)) st.id ≡ Some st
    at true e more = rw (eqb-same st.id st.id refl) refl
    at false e more = rw e more

-- and the others as they were
put-other : (st : Stream) (id : ℕ) (rs : List Stream) → eqb st.id id ≡ false → record_of (put st rs) id ≡ record_of rs id
put-other st id [] a = rw a refl
put-other st id (x ∷ xs) a = at (eqb x.id st.id) refl (put-other st id xs a)
  where
    at : (b : Bool) → eqb x.id st.id ≡ b → record_of (put st xs) id ≡ record_of xs id → record_of (cond b (st ∷ xs) (x ∷ put st xs)) id ≡ cond (eqb x.id id) (Some x) (record_of xs id)
    at true e more =
        let other : eqb x.id id ≡ false = ap (λ i. eqb i id) (eqb-true x.id st.id e) ∙ a in
        rw (a, other) refl
    at false e more = ap (λ o. cond (eqb x.id id) (Some x) o) more

pub put-first : (st : Stream) (xs ys : List Stream) → is_some (record_of xs st.id) ≡ true → put st (xs ++ ys) ≡ put st xs ++ ys
put-first st [] ys k = absurd (true≢false (sym k))
put-first st (x ∷ xs) ys k = at (eqb x.id st.id) k (put-first st xs ys)
  where
    at : (b : Bool) → is_some (cond b (Some x) (record_of xs st.id)) ≡ true → (is_some (record_of xs st.id) ≡ true → put st (xs ++ ys) ≡ put st xs ++ ys)
        → cond b (st ∷ xs ++ ys) (x ∷ put st (xs ++ ys)) ≡ cond b (st ∷ xs) (x ∷ put st xs) ++ ys
    at true k more = refl
    at false k more = ap (λ zs. x ∷ zs) (more k)

put-rest : (st : Stream) (xs ys : List Stream) → record_of xs st.id ≡ None → put st (xs ++ ys) ≡ xs ++ put st ys
put-rest st [] ys f = refl
put-rest st (x ∷ xs) ys f = at (eqb x.id st.id) f (put-rest st xs ys)
  where
    at : (b : Bool) → cond b (Some x) (record_of xs st.id) ≡ None → (record_of xs st.id ≡ None → put st (xs ++ ys) ≡ xs ++ put st ys)
        → cond b (st ∷ xs ++ ys) (x ∷ put st (xs ++ ys)) ≡ x ∷ xs ++ put st ys
    at true f more = absurd (none-some x (sym f))
    at false f more = ap (λ zs. x ∷ zs) (more f)

-- the others are as before in a front into which a record was put
as_in-apart : (low : ℕ) (st : Stream) (front rs : List Stream) → st.id ≤ low → Rise low rs → map (as_in (put st front)) rs ≡ map (as_in front) rs
as_in-apart low st front [] le h = refl
as_in-apart low st front (x ∷ xs) le h =
    let over = h.0 in
    let other : as_in (put st front) x ≡ as_in front x = ap (λ o. unwrap_or o x) (put-other st x.id front (eqb-other st.id x.id (omega (arith, le, over)))) in
    rw (other, as_in-apart x.id st front xs (omega (arith, le, over)) h.1) refl

put-shared : (low : ℕ) (st : Stream) (front rs : List Stream) → Rise low rs → is_some (record_of rs st.id) ≡ true → put st (map (as_in front) rs) ≡ map (as_in (put st front)) rs
put-shared low st front [] h k = absurd (true≢false (sym k))
put-shared low st front (x ∷ xs) h k = ap (λ i. cond (eqb i st.id) (st ∷ map (as_in front) xs) (as_in front x ∷ put st (map (as_in front) xs))) (as_in-id front x) ∙ at (eqb x.id st.id) refl k (put-shared x.id st front xs h.1)
  where
    at : (b : Bool) → eqb x.id st.id ≡ b → is_some (cond b (Some x) (record_of xs st.id)) ≡ true
        → (is_some (record_of xs st.id) ≡ true → put st (map (as_in front) xs) ≡ map (as_in (put st front)) xs)
        → cond b (st ∷ map (as_in front) xs) (as_in front x ∷ put st (map (as_in front) xs)) ≡ as_in (put st front) x ∷ map (as_in (put st front)) xs
    at true e k more =
        let same = eqb-true x.id st.id e in
        let here : as_in (put st front) x ≡ st = ap (λ i. unwrap_or (record_of (put st front) i) x) same ∙ ap (λ o. unwrap_or o x) (put-here st front) in
        rw (here, as_in-apart x.id st front xs (omega (arith, same)) h.1) refl
    at false e k more =
        let other : as_in (put st front) x ≡ as_in front x = ap (λ o. unwrap_or o x) (put-other st x.id front (flip x.id st.id e)) in
        rw other (ap (λ ys. as_in front x ∷ ys) (more k))

-- where the record that is put is in the front, or in the rest
abbrev IsPutFront : ℕ → Stream → List Stream → Type 0
IsPutFront n st own = (take n (put st own) ≡ put st (take n own)) × (drop n (put st own) ≡ drop n own)

abbrev IsPutRest : ℕ → Stream → List Stream → Type 0
IsPutRest n st own = (take n (put st own) ≡ take n own) × (drop n (put st own) ≡ put st (drop n own))

put-front : (n : ℕ) (st : Stream) (own : List Stream) → n ≤ length own → is_some (record_of (take n own) st.id) ≡ true → IsPutFront n st own
put-front n st own le k = (ap (take n) whole ∙ take_at (put st (take n own)) (drop n own) n long, ap (drop n) whole ∙ drop_at (put st (take n own)) (drop n own) n long)
  where
    whole : put st own ≡ put st (take n own) ++ drop n own
    whole = ap (put st) (sym (take-append-drop n own)) ∙ put-first st (take n own) (drop n own) k

    long : length (put st (take n own)) ≡ n
    long = length-put st (take n own) k ∙ length-take-le n own le

put-behind : (n : ℕ) (st : Stream) (own : List Stream) → n ≤ length own → record_of (take n own) st.id ≡ None → IsPutRest n st own
put-behind n st own le f = (ap (take n) whole ∙ take_at (take n own) (put st (drop n own)) n long, ap (drop n) whole ∙ drop_at (take n own) (put st (drop n own)) n long)
  where
    whole : put st own ≡ take n own ++ put st (drop n own)
    whole = ap (put st) (sym (take-append-drop n own)) ∙ put-rest st (take n own) (drop n own) f

    long : length (take n own) ≡ n
    long = length-take-le n own le

pub put-joined : {base own : List Stream} {n last : ℕ} → IsJoined base n own last → (st old : Stream) → record_of own st.id ≡ Some old → put st (joined base n own) ≡ joined base n (put st own)
put-joined {base} {own} {n} {last} j st old f = by (record_of (take n own) st.id) refl
  where
    by : (o : Option Stream) → record_of (take n own) st.id ≡ o → put st (joined base n own) ≡ joined base n (put st own)
    by None e =
        let there : record_of (drop n own) st.id ≡ Some old = sym (rest-found (take n own) (drop n own) st.id e) ∙ own-parts n own st.id ∙ f in
        let none = apart 0 st.id (map (as_in (take n own)) base) (drop n own) (rise 0 last (joined base n own) j.rising) (ap is_some there) in
        let parts = put-behind n st own j.within e in
        put-rest st (map (as_in (take n own)) base) (drop n own) none
        ∙ ap (λ (front : List Stream). map (as_in front) base ++ put st (drop n own)) (sym parts.0)
        ∙ ap (λ (rest : List Stream). map (as_in (take n (put st own))) base ++ rest) (sym parts.1)
    by (Some x) e =
        let there = known-found base (take n own) st.id x j.known e in
        let shown = front-found base (take n own) st.id x j.known e in
        let parts = put-front n st own j.within (ap is_some e) in
        put-first st (map (as_in (take n own)) base) (drop n own) (ap is_some shown)
        ∙ ap (λ (rs : List Stream). rs ++ drop n own) (put-shared 0 st (take n own) base j.base_rising there)
        ∙ ap (λ (front : List Stream). map (as_in front) base ++ drop n own) (sym parts.0)
        ∙ ap (λ (rest : List Stream). map (as_in (take n (put st own))) base ++ rest) (sym parts.1)

known-with : (st : Stream) (rs cs : List Stream) → is_some (record_of rs st.id) ≡ true → AreKnown rs cs → AreKnown rs (put st cs)
known-with st rs [] k h = (k, tt)
known-with st rs (c ∷ cs) k h = at (eqb c.id st.id) (known-with st rs cs k h.1)
  where
    at : (b : Bool) → AreKnown rs (put st cs) → AreKnown rs (cond b (st ∷ cs) (c ∷ put st cs))
    at true more = (k, h.1)
    at false more = (h.0, more)

closed-with : (st : Stream) (cs rs : List Stream) → AreOthersClosed cs rs → AreOthersClosed (put st cs) rs
closed-with st cs [] o = tt
closed-with st cs (x ∷ xs) o = (λ none. o.0 (none-apart (record_of cs x.id) (λ k. true≢false (sym (found-put st x.id cs k) ∙ ap is_some none))), closed-with st cs xs o.1)

pub joined-put : {base own : List Stream} {n last : ℕ} → IsJoined base n own last → (st old : Stream) → record_of own st.id ≡ Some old → IsJoined base n (put st own) last
joined-put {base} {own} {n} {last} j st old f = record {
  within = let long = length-put st own (ap is_some f) in let le = j.within in omega (arith, long, le);
  base_rising = j.base_rising;
  known = (by (record_of (take n own) st.id) refl).0;
  closed = (by (record_of (take n own) st.id) refl).1;
  rising = subst (λ (rs : List Stream). AreRising 0 last rs) (put-joined j st old f) (rising-put 0 last (joined base n own) st old j.rising (found-own j st.id old f));
}
  where
    by : (o : Option Stream) → record_of (take n own) st.id ≡ o → AreKnown base (take n (put st own)) × AreOthersClosed (take n (put st own)) base
    by None e =
        let parts = put-behind n st own j.within e in
        subst (λ (front : List Stream). AreKnown base front × AreOthersClosed front base) (sym parts.0) (j.known, j.closed)
    by (Some x) e =
        let parts = put-front n st own j.within (ap is_some e) in
        let there = known-found base (take n own) st.id x j.known e in
        subst (λ (front : List Stream). AreKnown base front × AreOthersClosed front base) (sym parts.0) (known-with st base (take n own) there j.known, closed-with st (take n own) base j.closed)

-- ---- what is in the front

found-rising : (low last id : ℕ) (rs : List Stream) → AreRising low last rs → is_some (record_of rs id) ≡ true → (id % 2 ≡ 1) × (id ≤ last)
found-rising low last id [] h k = absurd (true≢false (sym k))
found-rising low last id (x ∷ xs) h k = at (eqb x.id id) refl k (found-rising x.id last id xs h.3)
  where
    at : (b : Bool) → eqb x.id id ≡ b → is_some (cond b (Some x) (record_of xs id)) ≡ true → (is_some (record_of xs id) ≡ true → (id % 2 ≡ 1) × (id ≤ last)) → (id % 2 ≡ 1) × (id ≤ last)
    at true e k more = subst (λ i. (i % 2 ≡ 1) × (i ≤ last)) (eqb-true x.id id e) (h.1, h.2)
    at false e k more = more k

-- each of the front is one of the shared, by its identifier: odd, and not above the last
pub rising-front : (low from last : ℕ) (base front : List Stream) → AreRising from last base → Rise low front → AreKnown base front → AreRising low last front
rising-front low from last base [] h r k = tt
rising-front low from last base (c ∷ cs) h r k =
    let of-base = found-rising from last c.id base h k.0 in
    (r.0, of-base.0, of-base.1, rising-front c.id from last base cs h r.1 k.1)

all-found : (base front : List Stream) (id : ℕ) (st : Stream) → AllByRecursion (λ (c : Stream). record_of base c.id ≡ Some c) front → record_of front id ≡ Some st → record_of base id ≡ Some st
all-found base [] id st h f = absurd (none-some st f)
all-found base (c ∷ cs) id st h f = at (eqb c.id id) refl f (all-found base cs id st h.1)
  where
    at : (b : Bool) → eqb c.id id ≡ b → cond b (Some c) (record_of cs id) ≡ Some st → (record_of cs id ≡ Some st → record_of base id ≡ Some st) → record_of base id ≡ Some st
    at true e g more = ap (record_of base) (sym (eqb-true c.id id e)) ∙ h.0 ∙ g
    at false e g more = more g

-- what is found in the front is found in these
same-in : (low : ℕ) (front rs : List Stream) → Rise low rs → ((id : ℕ) (st : Stream) → low < id → record_of front id ≡ Some st → record_of rs id ≡ Some st) → map (as_in front) rs ≡ rs
same-in low front [] h s = refl
same-in low front (x ∷ xs) h s = rw (by (record_of front x.id) refl, same-in x.id front xs h.1 tail) refl
  where
    by : (o : Option Stream) → record_of front x.id ≡ o → unwrap_or o x ≡ x
    by None e = refl
    by (Some y) e =
        let found : record_of (x ∷ xs) x.id ≡ Some y = s x.id y h.0 e in
        let here : Some x ≡ Some y = rw (eqb-same x.id x.id refl) at found in
        cc

    tail : (id : ℕ) (st : Stream) → x.id < id → record_of front id ≡ Some st → record_of xs id ≡ Some st
    tail id st over e =
        let l = h.0 in
        let found : record_of (x ∷ xs) id ≡ Some st = s id st (omega (arith, l, over)) e in
        rw (eqb-other x.id id over) at found

-- what is in the front is among the shared as it is there
pub same-front : (front base : List Stream) → Rise 0 base → AllByRecursion (λ (st : Stream). record_of base st.id ≡ Some st) front → map (as_in front) base ≡ base
same-front front base h s = same-in 0 front base h (λ id st over f. all-found base front id st s f)

-- ---- what is at each place

get-first : {X : Type 0} (xs ys : List X) (i : ℕ) → i < length xs → slice_get (xs ++ ys) i ≡ slice_get xs i
get-first [] ys i l = absurd (omega (arith, l))
get-first (x ∷ xs) ys zero l = refl
get-first (x ∷ xs) ys (suc i) l = get-first xs ys i (omega (arith, l))

get-rest : {X : Type 0} (xs ys : List X) (i : ℕ) → length xs ≤ i → slice_get (xs ++ ys) i ≡ slice_get ys (i - length xs)
get-rest [] ys i le = let same : i ≡ i - 0 = omega arith in ap (slice_get ys) same
get-rest (x ∷ xs) ys zero le = absurd (omega (arith, le))
get-rest (x ∷ xs) ys (suc i) le = let same : i - length xs ≡ suc i - suc (length xs) = omega arith in get-rest xs ys i (omega (arith, le)) ∙ ap (slice_get ys) same

pub get-dropped : {X : Type 0} (n : ℕ) (xs : List X) (i : ℕ) → slice_get (drop n xs) i ≡ slice_get xs (i + n)
get-dropped zero xs i = let same : i ≡ i + 0 = omega arith in ap (slice_get xs) same
get-dropped (suc n) [] i = refl
get-dropped (suc n) (x ∷ xs) i = let same : suc (i + n) ≡ i + suc n = omega arith in get-dropped n xs i ∙ ap (slice_get (x ∷ xs)) same

pub at-shared : (front base : List Stream) (i : ℕ) → slice_get (map (as_in front) base) i ≡ option_map (as_in front) (slice_get base i)
at-shared front base i = slice_get-map (as_in front) base i

pub at-joined : (base own : List Stream) (n i : ℕ) → i < length base → slice_get (joined base n own) i ≡ option_map (as_in (take n own)) (slice_get base i)
at-joined base own n i l =
    let long = length-map base (as_in (take n own)) in
    get-first (map (as_in (take n own)) base) (drop n own) i (omega (arith, long, l)) ∙ at-shared (take n own) base i

pub at-rest : (base own : List Stream) (n i : ℕ) → length base ≤ i → slice_get (joined base n own) i ≡ slice_get own (i - length base + n)
at-rest base own n i le =
    let long = length-map base (as_in (take n own)) in
    get-rest (map (as_in (take n own)) base) (drop n own) i (omega (arith, long, le)) ∙ ap (λ k. slice_get (drop n own) (i - k)) long ∙ get-dropped n own (i - length base)

pub length-joined : (base own : List Stream) (n : ℕ) → length (joined base n own) ≡ length base + (length own - n)
length-joined base own n =
    let whole = length-append (map (as_in (take n own)) base) (drop n own) in
    let shared = length-map base (as_in (take n own)) in
    let rest = length-drop n own in
    omega (arith, whole, shared, rest)
