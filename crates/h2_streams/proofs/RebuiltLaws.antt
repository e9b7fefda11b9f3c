-- Records made again from those of a later list.
use Rattle.std.proofs.Common.{◌≡◌, ℕ, suc, ◌+◌, ◌<◌, ◌≤◌, Bool, true, false, ◌||◌, cond, eqb, nat_eq, nat_lt, map, take, List, [], ◌∷◌, ◌++◌, length, Some, None, Option, refl, ap, ◌∙◌, sym, subst, arith, true≢false}
use Rattle.std.proofs.lemmas.Bool.{eqb-true}
use Rattle.std.proofs.lemmas.Bool.Decides.{nat_tests}
use Rattle.std.specs.Prelude.{slice_get, unwrap_or}
use Rattle.std.specs.List.{AllByRecursion, filter, insert}
use Rattle.std.specs.Map.{keys_of, lookup}
use Rattle.std.specs.Option.{is_some}
use Rattle.h2_spec.specs.declared.streams.Stream.{Stream}
use Rattle.h2_spec.specs.Stream.{AreRising, id_of, is_live, put, record_of}
use Rattle.h2_streams.specs.Kept.{Rise, entries_of, lives, next_entry, place_of, places_of}
use Rattle.h2_streams.specs.Rebuilt.{AreKnown, AreOthersClosed, as_in, if_live, is_live_or, live_at, live_entries, rebuilt}
use Rattle.h2_streams.proofs.PlaceLaws.{found-id, none-below}

pub eqb-other : (a b : ℕ) → a < b → eqb a b ≡ false
eqb-other a b l = grind (arith, nat_tests, l)

eqb-above : (a b : ℕ) → b < a → eqb a b ≡ false
eqb-above a b l = grind (arith, nat_tests, l)

pub eqb-same : (a b : ℕ) → a ≡ b → eqb a b ≡ true
eqb-same a b e = grind (arith, nat_tests, e)

pub flip : (a b : ℕ) → eqb a b ≡ false → eqb b a ≡ false
flip a b e = grind (arith, nat_tests, e)

pub none-some : {A : Type 0} (x : A) → None ≡ Some x → ⊥
none-some x e = cc

-- ---- what rises

pub rise-from : (a b : ℕ) (rs : List Stream) → a ≤ b → Rise b rs → Rise a rs
rise-from a b [] le h = tt
rise-from a b (x ∷ xs) le h = (let l = h.0 in omega (arith, le, l), h.1)

pub rise-filter : (t : Stream → Bool) (low : ℕ) (rs : List Stream) → Rise low rs → Rise low (filter t rs)
rise-filter t low [] h = tt
rise-filter t low (x ∷ xs) h = by (t x) (rise-filter t x.id xs h.1)
  where
    by : (b : Bool) → Rise x.id (filter t xs) → Rise low (cond b (x ∷ filter t xs) (filter t xs))
    by true r = (h.0, r)
    by false r = rise-from low x.id (filter t xs) (let l = h.0 in omega (arith, l)) r

pub rise-put : (low : ℕ) (st : Stream) (rs : List Stream) → Rise low rs → is_some (record_of rs st.id) ≡ true → Rise low (put st rs)
rise-put low st [] h known = absurd (true≢false (sym known))
rise-put low st (x ∷ xs) h known = at (eqb x.id st.id) refl (rise-put x.id st xs h.1) known
  where
    at : (b : Bool) → eqb x.id st.id ≡ b → (is_some (record_of xs st.id) ≡ true → Rise x.id (put st xs)) → is_some (cond b (Some x) (record_of xs st.id)) ≡ true → Rise low (cond b (st ∷ xs) (x ∷ put st xs))
    at true e more k = subst (λ n. (low < n) × Rise n xs) (eqb-true x.id st.id e) h
    at false e more k = (h.0, more k)

-- ---- a record is put

pub found-put : (st : Stream) (id : ℕ) (rs : List Stream) → is_some (record_of rs id) ≡ true → is_some (record_of (put st rs) id) ≡ true
found-put st id [] known = absurd (true≢false (sym known))
found-put st id (x ∷ xs) known = at (eqb x.id st.id) refl (eqb x.id id) refl (found-put st id xs) known
  where
    at : (b : Bool) → eqb x.id st.id ≡ b → (c : Bool) → eqb x.id id ≡ c → (is_some (record_of xs id) ≡ true → is_some (record_of (put st xs) id) ≡ true)
        → is_some (cond c (Some x) (record_of xs id)) ≡ true → is_some (record_of (cond b (st ∷ xs) (x ∷ put st xs)) id) ≡ true
    at true e c g more k = let same : eqb st.id id ≡ c = ap (λ i. eqb i id) (sym (eqb-true x.id st.id e)) ∙ g in rw same (has c k)
      where
        has : (c : Bool) → is_some (cond c (Some x) (record_of xs id)) ≡ true → is_some (cond c (Some st) (record_of xs id)) ≡ true
        has true k = refl
        has false k = k
    at false e true g more k = rw g refl
    at false e false g more k = rw g (more k)

pub known-put : (st : Stream) (rs cs : List Stream) → AreKnown rs cs → AreKnown (put st rs) cs
known-put st rs [] h = tt
known-put st rs (c ∷ cs) h = (found-put st c.id rs h.0, known-put st rs cs h.1)

-- ---- one record after another

as_in-other : (c : Stream) (cs : List Stream) (st : Stream) → eqb c.id st.id ≡ false → as_in (c ∷ cs) st ≡ as_in cs st
as_in-other c cs st e = rw e refl

pub as_in-here : (c : Stream) (cs : List Stream) (st : Stream) → eqb c.id st.id ≡ true → as_in (c ∷ cs) st ≡ c
as_in-here c cs st e = rw e refl

pub as_in-none : (cs : List Stream) (st : Stream) → record_of cs st.id ≡ None → as_in cs st ≡ st
as_in-none cs st e = rw e refl

-- one that is below all does not count
pub as_in-below : (c : Stream) (cs : List Stream) (low : ℕ) (rs : List Stream) → c.id ≤ low → Rise low rs → map (as_in (c ∷ cs)) rs ≡ map (as_in cs) rs
as_in-below c cs low [] le h = refl
as_in-below c cs low (x ∷ xs) le h =
    let over = h.0 in
    let apart : eqb c.id x.id ≡ false = eqb-other c.id x.id (omega (arith, le, over)) in
    rw (as_in-other c cs x apart) (ap (λ ys. as_in cs x ∷ ys) (as_in-below c cs x.id xs (omega (arith, le, over)) h.1))

pub as_in-nothing : (rs : List Stream) → map (as_in []) rs ≡ rs
as_in-nothing [] = refl
as_in-nothing (x ∷ xs) = ap (λ ys. x ∷ ys) (as_in-nothing xs)

as_in-put : (low : ℕ) (st : Stream) (cs rs : List Stream) → Rise low rs → Rise st.id cs → is_some (record_of rs st.id) ≡ true → map (as_in cs) (put st rs) ≡ map (as_in (st ∷ cs)) rs
as_in-put low st cs [] h r known = absurd (true≢false (sym known))
as_in-put low st cs (x ∷ xs) h r known = at (eqb x.id st.id) refl (as_in-put x.id st cs xs h.1 r) known
  where
    at : (b : Bool) → eqb x.id st.id ≡ b → (is_some (record_of xs st.id) ≡ true → map (as_in cs) (put st xs) ≡ map (as_in (st ∷ cs)) xs) → is_some (cond b (Some x) (record_of xs st.id)) ≡ true
        → map (as_in cs) (cond b (st ∷ xs) (x ∷ put st xs)) ≡ as_in (st ∷ cs) x ∷ map (as_in (st ∷ cs)) xs
    at true e more k =
        let same = eqb-true x.id st.id e in
        let own : as_in cs st ≡ st = as_in-none cs st (none-below st.id st.id cs (omega arith) r) in
        let here : as_in (st ∷ cs) x ≡ st = as_in-here st cs x (eqb-same st.id x.id (sym same)) in
        rw (own, here) (ap (λ ys. st ∷ ys) (sym (as_in-below st cs x.id xs (omega (arith, same)) h.1)))
    at false e more k = rw (as_in-other st cs x (flip x.id st.id e), more k) refl

-- what has been written, and what remains to write
pub record Writes (changed base : List Stream) (rest records : List Stream) : Type 0 where
  pub rising : Rise 0 records
  pub order : Rise 0 rest
  pub known : AreKnown records rest
  pub items : map (as_in rest) records ≡ map (as_in changed) base

-- before the first is written
pub writes-first : (changed base : List Stream) → Rise 0 base → Rise 0 changed → AreKnown base changed → Writes changed base changed base
writes-first changed base rising order known = record { rising = rising; order = order; known = known; items = refl }

pub writes-next : (changed base : List Stream) (st : Stream) (rest records : List Stream) → Writes changed base (st ∷ rest) records → Writes changed base rest (put st records)
writes-next changed base st rest records w = record {
  rising = rise-put 0 st records w.rising w.known.0;
  order = rise-from 0 st.id rest (omega arith) w.order.1;
  known = known-put st records rest w.known.1;
  items = as_in-put 0 st rest records w.rising w.order.1 w.known.0 ∙ w.items;
}

-- ---- the live ones are put into a map

-- what has been put into the map, and what remains
pub record Enters (streams records : List Stream) (rest : List Stream) (entries : List (ℕ × ℕ)) : Type 0 where
  pub order : Rise 0 rest
  pub live_is : entries ++ live_entries rest records ≡ live_entries streams records
  pub behind : AllByRecursion (λ (id : ℕ). Rise id rest) (keys_of entries)

-- before the first
pub enters-first : (streams records : List Stream) (entries : List (ℕ × ℕ)) → Rise 0 streams → entries ≡ [] → Enters streams records streams entries
enters-first streams records entries order none = record {
  order = order;
  live_is = ap (λ es. es ++ live_entries streams records) none;
  behind = subst (λ es. AllByRecursion (λ (id : ℕ). Rise id streams) (keys_of es)) (sym none) tt;
}

-- those that are after others are after them without the first
behind-less : (st : Stream) (rest : List Stream) (ids : List ℕ) → AllByRecursion (λ (id : ℕ). Rise id (st ∷ rest)) ids → AllByRecursion (λ (id : ℕ). Rise id rest) ids
behind-less st rest [] h = tt
behind-less st rest (id ∷ ids) h = (let over = h.0.0 in rise-from id st.id rest (omega (arith, over)) h.0.1, behind-less st rest ids h.1)

behind-more : (st : Stream) (place : ℕ) (rest : List Stream) (es : List (ℕ × ℕ)) (b : Bool) → Rise st.id rest → AllByRecursion (λ (id : ℕ). Rise id rest) (keys_of es) → AllByRecursion (λ (id : ℕ). Rise id rest) (keys_of (es ++ cond b ((st.id, place) ∷ []) []))
behind-more st place rest [] true r h = (r, tt)
behind-more st place rest [] false r h = tt
behind-more st place rest (e ∷ es) b r h = (h.0, behind-more st place rest es b r h.1)

pub enters-next : (streams records : List Stream) (st : Stream) (rest : List Stream) (entries : List (ℕ × ℕ)) → Enters streams records (st ∷ rest) entries
    → Enters streams records rest (entries ++ cond (is_live st.kind) ((st.id, place_of st.id records) ∷ []) [])
enters-next streams records st rest entries w = record {
  order = rise-from 0 st.id rest (omega arith) w.order.1;
  live_is = Rattle.std.proofs.Common.append_assoc entries _ _ ∙ w.live_is;
  behind = behind-more st (place_of st.id records) rest entries (is_live st.kind) w.order.1 (behind-less st rest (keys_of entries) w.behind);
}

-- the next one is not yet in the map
pub enters-absent : (st : Stream) (rest : List Stream) (entries : List (ℕ × ℕ)) → AllByRecursion (λ (id : ℕ). Rise id (st ∷ rest)) (keys_of entries) → lookup (nat_eq st.id) entries ≡ None
enters-absent st rest [] h = refl
enters-absent st rest (e ∷ es) h = let over = h.0.0 in let apart : nat_eq st.id e.0 ≡ false = grind (arith, nat_tests, over) in rw apart (enters-absent st rest es h.1)

-- ---- what is live

entries-behind : (x : Stream) (rs : List Stream) (cs : List Stream) → Rise x.id cs → live_entries cs (x ∷ rs) ≡ map next_entry (live_entries cs rs)
entries-behind x rs [] h = refl
entries-behind x rs (c ∷ cs) h =
    let over = h.0 in
    let under : nat_lt x.id c.id ≡ true = grind (arith, nat_tests, over) in
    rw (under, entries-behind x rs cs (rise-from x.id c.id cs (omega (arith, over)) h.1)) (by (lives c))
  where
    by : (b : Bool) → cond {A = List (ℕ × ℕ)} b ((c.id, suc (place_of c.id rs)) ∷ []) [] ++ map next_entry (live_entries cs rs) ≡ map next_entry (cond b ((c.id, place_of c.id rs) ∷ []) [] ++ live_entries cs rs)
    by true = refl
    by false = refl

-- of those above one, all that have a record have it after that one
pub known-behind : (x : Stream) (rs cs : List Stream) → Rise x.id cs → AreKnown (x ∷ rs) cs → AreKnown rs cs
known-behind x rs [] h k = tt
known-behind x rs (c ∷ cs) h k =
    let over = h.0 in
    let apart : eqb x.id c.id ≡ false = eqb-other x.id c.id over in
    (rw apart at k.0, known-behind x rs cs (rise-from x.id c.id cs (omega (arith, over)) h.1) k.1)

-- a record of which the others know nothing is not live
pub others-behind : (c : Stream) (cs : List Stream) (low : ℕ) (rs : List Stream) → c.id ≤ low → Rise low rs → AreOthersClosed (c ∷ cs) rs → AreOthersClosed cs rs
others-behind c cs low [] le h o = tt
others-behind c cs low (x ∷ xs) le h o =
    let over = h.0 in
    let apart : eqb c.id x.id ≡ false = eqb-other c.id x.id (omega (arith, le, over)) in
    (λ none. o.0 (rw apart none), others-behind c cs x.id xs (omega (arith, le, over)) h.1 o.1)

pub found-above : (low id : ℕ) (rs : List Stream) → Rise low rs → is_some (record_of rs id) ≡ true → low < id
found-above low id [] h k = absurd (true≢false (sym k))
found-above low id (y ∷ ys) h k = by (eqb y.id id) refl k (found-above y.id id ys h.1)
  where
    by : (b : Bool) → eqb y.id id ≡ b → is_some (cond b (Some y) (record_of ys id)) ≡ true → (is_some (record_of ys id) ≡ true → y.id < id) → low < id
    by true e k more = let same = eqb-true y.id id e in let l = h.0 in omega (arith, same, l)
    by false e k more = let tail = more k in let l = h.0 in omega (arith, tail, l)

entered-first : (b : Bool) (id : ℕ) (es : List (ℕ × ℕ)) → cond b ((id, 0) ∷ map next_entry es) (map next_entry es) ≡ cond b ((id, 0) ∷ []) [] ++ map next_entry es
entered-first true id es = refl
entered-first false id es = refl

pub live-rebuilt : (low : ℕ) (cs rs : List Stream) → Rise low rs → Rise low cs → AreKnown rs cs → AreOthersClosed cs rs → entries_of lives (map (as_in cs) rs) ≡ live_entries cs rs
live-rebuilt low [] [] h r k o = refl
live-rebuilt low (c ∷ cs) [] h r k o = absurd (true≢false (sym k.0))
live-rebuilt low [] (x ∷ xs) h r k o = rw (o.0 refl) (ap (map next_entry) (live-rebuilt x.id [] xs h.1 tt tt o.1))
live-rebuilt low (c ∷ cs) (x ∷ xs) h r k o = at (eqb x.id c.id) refl (live-rebuilt x.id cs xs h.1) (live-rebuilt x.id (c ∷ cs) xs h.1)
  where
    at : (b : Bool) → eqb x.id c.id ≡ b
        → (Rise x.id cs → AreKnown xs cs → AreOthersClosed cs xs → entries_of lives (map (as_in cs) xs) ≡ live_entries cs xs)
        → (Rise x.id (c ∷ cs) → AreKnown xs (c ∷ cs) → AreOthersClosed (c ∷ cs) xs → entries_of lives (map (as_in (c ∷ cs)) xs) ≡ live_entries (c ∷ cs) xs)
        → entries_of lives (map (as_in (c ∷ cs)) (x ∷ xs)) ≡ live_entries (c ∷ cs) (x ∷ xs)
    at true e taken left =
        let same = eqb-true x.id c.id e in
        let above : Rise x.id cs = rise-from x.id c.id cs (omega (arith, same)) r.1 in
        let below : nat_lt x.id c.id ≡ false = grind (arith, nat_tests, same) in
        let rest = taken above (known-behind x xs cs above k.1) (others-behind c cs x.id xs (omega (arith, same)) h.1 o.1) in
        rw (as_in-here c cs x (eqb-same c.id x.id (sym same)), as_in-below c cs x.id xs (omega (arith, same)) h.1, below, entries-behind x xs cs above, rest) (entered-first (lives c) c.id (live_entries cs xs))
    at false e taken left =
        let there : is_some (record_of xs c.id) ≡ true = rw e at k.0 in
        let over = found-above x.id c.id xs h.1 there in
        let above : Rise x.id (c ∷ cs) = (over, r.1) in
        let none : record_of (c ∷ cs) x.id ≡ None = none-below x.id x.id (c ∷ cs) (omega arith) above in
        let rest = left above (there, known-behind x xs cs (rise-from x.id c.id cs (omega (arith, over)) r.1) k.1) o.1 in
        rw (as_in-none (c ∷ cs) x none, o.0 none) (ap (map next_entry) rest ∙ sym (entries-behind x xs (c ∷ cs) above))

pub as_in-id : (cs : List Stream) (st : Stream) → (as_in cs st).id ≡ st.id
as_in-id cs st = by (record_of cs st.id) (found-id cs st.id)
  where
    by : (o : Option Stream) → ((x : Stream) → o ≡ Some x → x.id ≡ st.id) → (unwrap_or o st).id ≡ st.id
    by None f = refl
    by (Some x) f = f x refl

pub rising-rebuilt : (low last : ℕ) (cs rs : List Stream) → AreRising low last rs → AreRising low last (map (as_in cs) rs)
rising-rebuilt low last cs [] h = tt
rising-rebuilt low last cs (x ∷ xs) h = rw (as_in-id cs x) (h.0, h.1, h.2, rising-rebuilt x.id last cs xs h.3)

-- ---- the records that are kept

live-behind : (x : Stream) (rs : List Stream) (ps : List ℕ) → live_at (x ∷ rs) (map suc ps) ≡ live_at rs ps
live-behind x rs [] = refl
live-behind x rs (p ∷ ps) = ap (λ ys. if_live (slice_get rs p) ++ ys) (live-behind x rs ps)

-- of places among which are those of all live ones, the live records are all that are live
pub live-of : (t : Stream → Bool) → ((st : Stream) → t st ≡ false → is_live st.kind ≡ false) → (rs : List Stream) → live_at rs (places_of t rs) ≡ filter lives rs
live-of t idle [] = refl
live-of t idle (x ∷ xs) = by (t x) refl (live-behind x xs (places_of t xs) ∙ live-of t idle xs)
  where
    first : (b : Bool) → cond {A = List Stream} b (x ∷ []) [] ++ filter lives xs ≡ cond b (x ∷ filter lives xs) (filter lives xs)
    first true = refl
    first false = refl

    by : (b : Bool) → t x ≡ b → live_at (x ∷ xs) (map suc (places_of t xs)) ≡ filter lives xs
        → live_at (x ∷ xs) (cond b (0 ∷ map suc (places_of t xs)) (map suc (places_of t xs))) ≡ filter lives (x ∷ xs)
    by true e h = ap (λ ys. if_live (Some x) ++ ys) h ∙ first (lives x)
    by false e h = rw (idle x e) h

pub filter-same : (s t : Stream → Bool) → ((st : Stream) → s st ≡ t st) → (rs : List Stream) → filter s rs ≡ filter t rs
filter-same s t h [] = refl
filter-same s t h (x ∷ xs) = rw (h x, filter-same s t h xs) refl

or-false : (b : Bool) → (b || false) ≡ b
or-false true = refl
or-false false = refl

pub live-or-none : (rs : List Stream) → filter (is_live_or None) rs ≡ filter lives rs
live-or-none rs = filter-same (is_live_or None) lives (λ st. or-false (is_live st.kind)) rs

-- no record has the identifier
pub live-or-absent : (id : ℕ) (rs : List Stream) → record_of rs id ≡ None → filter (is_live_or (Some id)) rs ≡ filter lives rs
live-or-absent id [] h = refl
live-or-absent id (x ∷ xs) h = at (eqb x.id id) refl h (live-or-absent id xs)
  where
    at : (b : Bool) → eqb x.id id ≡ b → cond b (Some x) (record_of xs id) ≡ None → (record_of xs id ≡ None → filter (is_live_or (Some id)) xs ≡ filter lives xs) → filter (is_live_or (Some id)) (x ∷ xs) ≡ filter lives (x ∷ xs)
    at true e n more = absurd (none-some x (sym n))
    at false e n more = rw (flip x.id id e, or-false (is_live x.kind), more n) refl

or-true : (b : Bool) → (b || true) ≡ true
or-true true = refl
or-true false = refl

place-first : (id : ℕ) (ys : List Stream) → Rise id ys → place_of id ys ≡ 0
place-first id [] r = refl
place-first id (y ∷ ys) r = let over = r.0 in let above : nat_lt y.id id ≡ false = grind (arith, nat_tests, over) in rw above refl

insert-first : (st : Stream) (ys : List Stream) → insert ys 0 st ≡ st ∷ ys
insert-first st [] = refl
insert-first st (y ∷ ys) = refl

-- the live ones of these, and this one where it is not live
abbrev with_closed : Stream → List Stream → List Stream
with_closed st live = cond (is_live st.kind) live (insert live (place_of st.id live) st)

closed-here : (st : Stream) (live : List Stream) → Rise st.id live → with_closed st (cond (is_live st.kind) (st ∷ live) live) ≡ st ∷ live
closed-here st live r = by (is_live st.kind)
  where
    by : (b : Bool) → cond b (cond b (st ∷ live) live) (insert (cond b (st ∷ live) live) (place_of st.id (cond b (st ∷ live) live)) st) ≡ st ∷ live
    by true = refl
    by false = rw (place-first st.id live r) (insert-first st live)

closed-behind : (st x : Stream) (live : List Stream) → x.id < st.id → with_closed st (x ∷ live) ≡ x ∷ with_closed st live
closed-behind st x live l = let under : nat_lt x.id st.id ≡ true = grind (arith, nat_tests, l) in rw under (by (is_live st.kind))
  where
    by : (b : Bool) → cond b (x ∷ live) (x ∷ insert live (place_of st.id live) st) ≡ x ∷ cond b live (insert live (place_of st.id live) st)
    by true = refl
    by false = refl

some-found : (o : Option Stream) (st : Stream) → o ≡ Some st → is_some o ≡ true
some-found o st e = rw e refl

pub live-or-found : (low id : ℕ) (rs : List Stream) (st : Stream) → Rise low rs → record_of rs id ≡ Some st → with_closed st (filter lives rs) ≡ filter (is_live_or (Some id)) rs
live-or-found low id [] st h f = absurd (none-some st f)
live-or-found low id (x ∷ xs) st h f = at (eqb x.id id) refl f (live-or-found x.id id xs st h.1)
  where
    at : (b : Bool) → eqb x.id id ≡ b → cond b (Some x) (record_of xs id) ≡ Some st → (record_of xs id ≡ Some st → with_closed st (filter lives xs) ≡ filter (is_live_or (Some id)) xs)
        → with_closed st (filter lives (x ∷ xs)) ≡ filter (is_live_or (Some id)) (x ∷ xs)
    at true e g more =
        let one : x ≡ st = cc in
        let same : x.id ≡ id = eqb-true x.id id e in
        let own : is_live_or (Some id) x ≡ true = rw (eqb-same id x.id (sym same)) (or-true (is_live x.kind)) in
        let none : record_of xs id ≡ None = none-below id x.id xs (omega (arith, same)) h.1 in
        rw (own, live-or-absent id xs none, one) (closed-here st (filter lives xs) (rise-filter lives st.id xs (subst (λ (y : Stream). Rise y.id xs) one h.1)))
    at false e g more =
        let same = found-id xs id st g in
        let over = found-above x.id id xs h.1 (some-found (record_of xs id) st g) in
        let test : is_live_or (Some id) x ≡ is_live x.kind = rw (flip x.id id e) (or-false (is_live x.kind)) in
        rw test (by (is_live x.kind) (omega (arith, same, over)) (more g))
      where
        by : (b : Bool) → x.id < st.id → with_closed st (filter lives xs) ≡ filter (is_live_or (Some id)) xs
            → with_closed st (cond b (x ∷ filter lives xs) (filter lives xs)) ≡ cond b (x ∷ filter (is_live_or (Some id)) xs) (filter (is_live_or (Some id)) xs)
        by true l rest = closed-behind st x (filter lives xs) l ∙ ap (λ ys. x ∷ ys) rest
        by false l rest = rest

-- ---- a list of records and a later one

-- the records of the first are those of the second in the same places, by their identifiers, and where the test fails
-- they are the same
abbrev pub IsContinued : (Stream → Bool) → List Stream → List Stream → Type 0
IsContinued t [] ys = Unit {0}
IsContinued t (x ∷ xs) [] = ⊥
IsContinued t (x ∷ xs) (y ∷ ys) = (y.id ≡ x.id) × (t x ≡ false → y ≡ x) × IsContinued t xs ys

-- what is found in the first and fails the test is found in the second
abbrev pub KeepsFound : (Stream → Bool) → List Stream → List Stream → Type 0
KeepsFound t xs ys = (id : ℕ) (st : Stream) → record_of xs id ≡ Some st → t st ≡ false → record_of ys id ≡ Some st

-- what has a record in the first has one in the second
ids-found : (id : ℕ) (xs ys : List Stream) (more : List ℕ) → map id_of ys ≡ map id_of xs ++ more → is_some (record_of xs id) ≡ true → is_some (record_of ys id) ≡ true
ids-found id [] ys more e k = absurd (true≢false (sym k))
ids-found id (x ∷ xs) [] more e k = cc
ids-found id (x ∷ xs) (y ∷ ys) more e k = at (eqb x.id id) refl k (ids-found id xs ys more rest)
  where
    same : y.id ≡ x.id
    same = cc

    rest : map id_of ys ≡ map id_of xs ++ more
    rest = cc

    at : (b : Bool) → eqb x.id id ≡ b → is_some (cond b (Some x) (record_of xs id)) ≡ true → (is_some (record_of xs id) ≡ true → is_some (record_of ys id) ≡ true) → is_some (record_of (y ∷ ys) id) ≡ true
    at true g k later = rw (same, g) refl
    at false g k later = rw (same, g) (later k)

pub continues-of : (t : Stream → Bool) (low : ℕ) (xs ys : List Stream) (more : List ℕ) → Rise low ys → map id_of ys ≡ map id_of xs ++ more → KeepsFound t xs ys → IsContinued t xs ys
continues-of t low [] ys more r e k = tt
continues-of t low (x ∷ xs) [] more r e k = cc
continues-of t low (x ∷ xs) (y ∷ ys) more r e k =
    let same : y.id ≡ x.id = cc in
    let rest : map id_of ys ≡ map id_of xs ++ more = cc in
    (same, head same, continues-of t y.id xs ys more r.1 rest (tail same rest))
  where
    head : y.id ≡ x.id → t x ≡ false → y ≡ x
    head same f =
        let found : record_of (x ∷ xs) x.id ≡ Some x = rw (eqb-same x.id x.id refl) refl in
        let there : cond (eqb y.id x.id) (Some y) (record_of ys x.id) ≡ Some x = k x.id x found f in
        let here : Some y ≡ Some x = rw (eqb-same y.id x.id same) at there in
        cc

    tail : y.id ≡ x.id → map id_of ys ≡ map id_of xs ++ more → KeepsFound t xs ys
    tail same rest id st f g =
        let over = found-above y.id id ys r.1 (ids-found id xs ys more rest (some-found (record_of xs id) st f)) in
        let apart : eqb x.id id ≡ false = eqb-other x.id id (omega (arith, same, over)) in
        let found : record_of (x ∷ xs) id ≡ Some st = rw apart f in
        let there : cond (eqb y.id id) (Some y) (record_of ys id) ≡ Some st = k id st found g in
        rw (eqb-other y.id id over) at there

-- the second begins as long as the first
pub continues-within : (t : Stream → Bool) (xs ys : List Stream) → IsContinued t xs ys → length xs ≤ length ys
continues-within t [] ys c = omega arith
continues-within t (x ∷ xs) [] c = absurd c
continues-within t (x ∷ xs) (y ∷ ys) c = let rest = continues-within t xs ys c.2 in omega (arith, rest)

-- and its identifiers rise as those of the first
pub continues-rising : (t : Stream → Bool) (low last : ℕ) (xs ys : List Stream) → IsContinued t xs ys → AreRising low last xs → AreRising low last (take (length xs) ys)
continues-rising t low last [] ys c r = tt
continues-rising t low last (x ∷ xs) [] c r = absurd c
continues-rising t low last (x ∷ xs) (y ∷ ys) c r = rw c.0 (r.0, r.1, r.2, continues-rising t x.id last xs ys c.2 r.3)

continues-rise : (t : Stream → Bool) (low : ℕ) (xs ys : List Stream) → IsContinued t xs ys → Rise low xs → Rise low (take (length xs) ys)
continues-rise t low [] ys c r = tt
continues-rise t low (x ∷ xs) [] c r = absurd c
continues-rise t low (x ∷ xs) (y ∷ ys) c r = rw c.0 (r.0, continues-rise t x.id xs ys c.2 r.1)

known-more : (x : Stream) (xs cs : List Stream) → AreKnown xs cs → AreKnown (x ∷ xs) cs
known-more x xs [] k = tt
known-more x xs (c ∷ cs) k = (by (eqb x.id c.id), known-more x xs cs k.1)
  where
    by : (b : Bool) → is_some (cond b (Some x) (record_of xs c.id)) ≡ true
    by true = refl
    by false = k.0

-- those that pass the test have a record in the second
pub continues-known : (t : Stream → Bool) (xs ys : List Stream) → IsContinued t xs ys → AreKnown (take (length xs) ys) (filter t xs)
continues-known t [] ys c = tt
continues-known t (x ∷ xs) [] c = absurd c
continues-known t (x ∷ xs) (y ∷ ys) c = by (t x) (known-more y (take (length xs) ys) (filter t xs) (continues-known t xs ys c.2))
  where
    by : (b : Bool) → AreKnown (y ∷ take (length xs) ys) (filter t xs) → AreKnown (y ∷ take (length xs) ys) (cond b (x ∷ filter t xs) (filter t xs))
    by true k = (rw (eqb-same y.id x.id c.0) refl, k)
    by false k = k

-- where all live ones pass the test, the others are not live
pub continues-closed : (t : Stream → Bool) (low : ℕ) (xs ys : List Stream) → ((st : Stream) → t st ≡ false → is_live st.kind ≡ false) → Rise low xs → IsContinued t xs ys
    → AreOthersClosed (filter t xs) (take (length xs) ys)
continues-closed t low [] ys idle r c = tt
continues-closed t low (x ∷ xs) [] idle r c = absurd c
continues-closed t low (x ∷ xs) (y ∷ ys) idle r c = by (t x) refl (continues-closed t x.id xs ys idle r.1 c.2)
  where
    more : (low : ℕ) (cs rs : List Stream) → x.id ≤ low → Rise low rs → AreOthersClosed cs rs → AreOthersClosed (x ∷ cs) rs
    more low cs [] le h o = tt
    more low cs (z ∷ zs) le h o = let over = h.0 in ((λ none. o.0 (rw (eqb-other x.id z.id (omega (arith, le, over))) at none)), more z.id cs zs (omega (arith, le, over)) h.1 o.1)

    by : (b : Bool) → t x ≡ b → AreOthersClosed (filter t xs) (take (length xs) ys) → AreOthersClosed (cond b (x ∷ filter t xs) (filter t xs)) (y ∷ take (length xs) ys)
    by true e o = ((λ none. absurd (none-some x (sym (rw (eqb-same x.id y.id (sym c.0)) at none)))), more x.id (filter t xs) (take (length xs) ys) (omega arith) (continues-rise t x.id xs ys c.2 r.1) o)
    by false e o = ((λ none. ap (λ (st : Stream). is_live st.kind) (c.1 e) ∙ idle x e), o)

-- the first is made again from the second and those that pass the test
pub rebuilt-is : (t : Stream → Bool) (low : ℕ) (xs ys : List Stream) → Rise low xs → IsContinued t xs ys → rebuilt (length xs) (filter t xs) ys ≡ xs
rebuilt-is t low [] ys r c = refl
rebuilt-is t low (x ∷ xs) [] r c = absurd c
rebuilt-is t low (x ∷ xs) (y ∷ ys) r c = by (t x) refl (rebuilt-is t x.id xs ys r.1 c.2)
  where
    by : (b : Bool) → t x ≡ b → rebuilt (length xs) (filter t xs) ys ≡ xs
        → map (as_in (cond b (x ∷ filter t xs) (filter t xs))) (y ∷ take (length xs) ys) ≡ x ∷ xs
    by true e rest =
        rw (as_in-here x (filter t xs) y (eqb-same x.id y.id (sym c.0)), as_in-below x (filter t xs) x.id (take (length xs) ys) (omega arith) (continues-rise t x.id xs ys c.2 r.1)) (ap (λ zs. x ∷ zs) rest)
    by false e rest =
        let none : record_of (filter t xs) y.id ≡ None = none-below y.id x.id (filter t xs) (omega (arith, c.0)) (rise-filter t x.id xs r.1) in
        rw (as_in-none (filter t xs) y none, c.1 e) (ap (λ zs. x ∷ zs) rest)

-- what rises still rises without its end
pub rise-front : (low : ℕ) (xs ys : List Stream) (more : List ℕ) → map id_of ys ≡ map id_of xs ++ more → Rise low ys → Rise low xs
rise-front low [] ys more e r = tt
rise-front low (x ∷ xs) [] more e r = cc
rise-front low (x ∷ xs) (y ∷ ys) more e r =
    let same : y.id ≡ x.id = cc in
    let rest : map id_of ys ≡ map id_of xs ++ more = cc in
    subst (λ n. (low < n) × Rise n xs) same (r.0, rise-front y.id xs ys more rest r.1)
