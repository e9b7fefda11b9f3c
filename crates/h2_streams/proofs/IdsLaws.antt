-- Laws of the rising lists of identifiers and of places.
use Rattle.std.proofs.Common.{◌≡◌, ℕ, zero, suc, ◌<◌, ◌≤◌, Bool, true, false, ◌&&◌, ◌||◌, not, cond, eqb, nat_lt, leb, List, [], ◌∷◌, ◌++◌, length, drop, get_or, remove, find, Some, Err, nat_cmp, refl, ap, ◌∙◌, sym, arith, true≢false}
use Rattle.std.proofs.lemmas.Bool.Decides.{nat_tests}
use Rattle.std.proofs.lemmas.List.Sorted.{searched}
use Rattle.std.specs.Prelude.{slice_get}
use Rattle.std.specs.List.{AllWithin, insert, list_any}
use Rattle.std.specs.List.Sorted.{IsBinarySearchResult}
use Rattle.std.specs.Option.{option_map}
use Rattle.h2_spec.specs.declared.streams.Stream.{Stream}
use Rattle.h2_spec.specs.Stream.{record_of, put, AreRising, is_live, octets_waiting, id_of}
use Rattle.h2_streams.specs.Kept.{ids_of, lives, is_ready, IdsRise, without, placed, listed, above}

pub eqb-same : (a b : ℕ) → eqb a b ≡ true → a ≡ b
eqb-same a b h = grind (arith, nat_tests, h)

pub eqb-refl : (a b : ℕ) → a ≡ b → eqb a b ≡ true
eqb-refl a b h = grind (arith, nat_tests, h)

pub rise-weaken : (a b : ℕ) (ids : List ℕ) → a ≤ b → IdsRise b ids → IdsRise a ids
rise-weaken a b [] le h = tt
rise-weaken a b (x ∷ xs) le h = (let l = h.0 in omega (arith, l, le), h.1)

rise-over : (p : Stream → Bool) (low last : ℕ) (rs : List Stream) → AreRising low last rs → IdsRise (suc low) (ids_of p rs)
rise-over p low last [] h = tt
rise-over p low last (x ∷ xs) h = by (p x) (rise-over p x.id last xs h.3) where
  by : (b : Bool) → IdsRise (suc x.id) (ids_of p xs) → IdsRise (suc low) (cond b (x.id ∷ ids_of p xs) (ids_of p xs))
  by true r = (let l = h.0 in omega (arith, l), r)
  by false r = rise-weaken (suc low) (suc x.id) (ids_of p xs) (let l = h.0 in omega (arith, l)) r

pub rise-ids_of : (p : Stream → Bool) (last : ℕ) (rs : List Stream) → AreRising 0 last rs → IdsRise 0 (ids_of p rs)
rise-ids_of p last rs h = rise-weaken 0 1 (ids_of p rs) (omega arith) (rise-over p 0 last rs h)

pub ids_of-append : (p : Stream → Bool) (rs ss : List Stream) → ids_of p (rs ++ ss) ≡ ids_of p rs ++ ids_of p ss
ids_of-append p [] ss = refl
ids_of-append p (x ∷ xs) ss = by (p x) (ids_of-append p xs ss) where
  by : (b : Bool) → ids_of p (xs ++ ss) ≡ ids_of p xs ++ ids_of p ss → cond b (x.id ∷ ids_of p (xs ++ ss)) (ids_of p (xs ++ ss)) ≡ cond b (x.id ∷ ids_of p xs) (ids_of p xs) ++ ids_of p ss
  by true rest = ap (λ ys. x.id ∷ ys) rest
  by false rest = rest

-- what is below all identifiers is none of them
without-below : (id low : ℕ) (ids : List ℕ) → id < low → IdsRise low ids → without id ids ≡ ids
without-below id low [] le h = refl
without-below id low (x ∷ xs) le h =
    let apart : eqb x id ≡ false = let l = h.0 in grind (arith, nat_tests, l, le) in
    rw apart (ap (λ ys. x ∷ ys) (without-below id (suc x) xs (let l = h.0 in omega (arith, l, le)) h.1))

-- and is placed before them
placed-below : (id low : ℕ) (ids : List ℕ) → id < low → IdsRise low ids → placed id ids ≡ id ∷ ids
placed-below id low [] le h = refl
placed-below id low (x ∷ xs) le h = let under : nat_lt id x ≡ true = let l = h.0 in grind (arith, nat_tests, l, le) in rw under refl

listed-below : (b : Bool) (id low : ℕ) (ids : List ℕ) → id < low → IdsRise low ids → listed b id ids ≡ cond b (id ∷ ids) ids
listed-below true id low ids le h = placed-below id low ids le h
listed-below false id low ids le h = without-below id low ids le h

-- what is above an identifier is listed after it
listed-behind : (b : Bool) (id x : ℕ) (xs : List ℕ) → x < id → listed b id (x ∷ xs) ≡ x ∷ listed b id xs
listed-behind true id x xs l =
    let under : nat_lt id x ≡ false = grind (arith, nat_tests, l) in
    let apart : eqb x id ≡ false = grind (arith, nat_tests, l) in
    rw (under, apart) refl
listed-behind false id x xs l = let apart : eqb x id ≡ false = grind (arith, nat_tests, l) in rw apart refl

listed-here : (b : Bool) (id x : ℕ) (xs : List ℕ) → x ≡ id → listed b id (x ∷ xs) ≡ cond b (id ∷ xs) xs
listed-here true id x xs e =
    let under : nat_lt id x ≡ false = grind (arith, nat_tests, e) in
    let same : eqb x id ≡ true = grind (arith, nat_tests, e) in
    rw (under, same) (ap (λ n. n ∷ xs) e)
listed-here false id x xs e = let same : eqb x id ≡ true = grind (arith, nat_tests, e) in rw same refl

pub found-over : (low last id : ℕ) (rs : List Stream) (st : Stream) → AreRising low last rs → record_of rs id ≡ Some st → low < id
found-over low last id [] st h f = cc
found-over low last id (x ∷ xs) st h f = by (eqb x.id id) refl (found-over x.id last id xs st h.3)
  where
    by : (t : Bool) → eqb x.id id ≡ t → (record_of xs id ≡ Some st → x.id < id) → low < id
    by true e rest = let same = eqb-same x.id id e in let l = h.0 in omega (arith, same, l)
    by false e rest = let g : record_of xs id ≡ Some st = rw e at f in let tail = rest g in let l = h.0 in omega (arith, tail, l)

-- a record takes the place of the one of its stream: its identifier alone comes or goes
pub ids_of-put : (p : Stream → Bool) (low last : ℕ) (rs : List Stream) (st old : Stream) → AreRising low last rs → record_of rs st.id ≡ Some old → ids_of p (put st rs) ≡ listed (p st) st.id (ids_of p rs)
ids_of-put p low last [] st old h f = cc
ids_of-put p low last (x ∷ xs) st old h f = at (eqb x.id st.id) refl (ids_of-put p x.id last xs st old h.3)
  where
    ids : List ℕ
    ids = ids_of p xs

    here : (t : Bool) → x.id ≡ st.id → cond (p st) (st.id ∷ ids) ids ≡ listed (p st) st.id (cond t (x.id ∷ ids) ids)
    here true e = sym (listed-here (p st) st.id x.id ids e)
    here false e = sym (listed-below (p st) st.id (suc x.id) ids (omega (arith, e)) (rise-over p x.id last xs h.3))

    behind : (t : Bool) → x.id < st.id → ids_of p (put st xs) ≡ listed (p st) st.id ids → cond t (x.id ∷ ids_of p (put st xs)) (ids_of p (put st xs)) ≡ listed (p st) st.id (cond t (x.id ∷ ids) ids)
    behind true l rest = ap (λ ys. x.id ∷ ys) rest ∙ sym (listed-behind (p st) st.id x.id ids l)
    behind false l rest = rest

    at : (t : Bool) → eqb x.id st.id ≡ t → (record_of xs st.id ≡ Some old → ids_of p (put st xs) ≡ listed (p st) st.id ids) →
        ids_of p (cond t (st ∷ xs) (x ∷ put st xs)) ≡ listed (p st) st.id (cond (p x) (x.id ∷ ids) ids)
    at true e rest = here (p x) (eqb-same x.id st.id e)
    at false e rest = let g : record_of xs st.id ≡ Some old = rw e at f in behind (p x) (found-over x.id last st.id xs old h.3 g) (rest g)

-- a stream that can send is live
pub ready-lives : (st : Stream) → is_ready st ≡ true → lives st ≡ true
unfolding octets_waiting
ready-lives st h = by (is_live st.kind) refl
  where
    by : (t : Bool) → is_live st.kind ≡ t → t ≡ true
    by true e = refl
    by false e = let g : false ≡ true = rw e at h in absurd (true≢false (sym g))

pub idle-ready : (st : Stream) → is_live st.kind ≡ false → is_ready st ≡ false
unfolding octets_waiting
idle-ready st e = rw e refl

-- none is listed where none passes
pub none-listed : (p : Stream → Bool) (rs : List Stream) → eqb (length (ids_of p rs)) 0 ≡ not (list_any p rs)
none-listed p [] = refl
none-listed p (x ∷ xs) = by (p x) (none-listed p xs)
  where
    by : (t : Bool) → eqb (length (ids_of p xs)) 0 ≡ not (list_any p xs) → eqb (length (cond t (x.id ∷ ids_of p xs) (ids_of p xs))) 0 ≡ not (t || list_any p xs)
    by true h = grind (arith, nat_tests)
    by false h = h

-- the first of the listed ones above a number is the first record that passes the test there
pub first-above : (p : Stream → Bool) (after : ℕ) (rs : List Stream) → slice_get (above after (ids_of p rs)) 0 ≡ option_map id_of (find (λ (st : Stream). nat_lt after st.id && p st) rs)
first-above p after [] = refl
first-above p after (x ∷ xs) = by (p x) (nat_lt after x.id) refl (first-above p after xs)
  where
    by : (s t : Bool) → nat_lt after x.id ≡ t → slice_get (above after (ids_of p xs)) 0 ≡ option_map id_of (find (λ (st : Stream). nat_lt after st.id && p st) xs) →
        slice_get (above after (cond s (x.id ∷ ids_of p xs) (ids_of p xs))) 0 ≡ option_map id_of (cond (t && s) (Some x) (find (λ (st : Stream). nat_lt after st.id && p st) xs))
    by true true e rest = rw e refl
    by true false e rest = rw e rest
    by false true e rest = rest
    by false false e rest = rest

-- ---- searches in rising identifiers

rise-above : (low : ℕ) (ids : List ℕ) → IdsRise low ids → (j : ℕ) → j < length ids → low ≤ get_or ids j 0
rise-above low [] h j l = absurd (omega arith)
rise-above low (x ∷ xs) h zero l = h.0
rise-above low (x ∷ xs) h (suc j) l = let b = rise-above (suc x) xs h.1 j (omega arith) in let a = h.0 in omega (arith, a, b)

pub rise-ordered : (low : ℕ) (ids : List ℕ) → IdsRise low ids → (i j : ℕ) → i ≤ j → j < length ids → get_or ids i 0 ≤ get_or ids j 0
rise-ordered low [] h i j le l = absurd (omega arith)
rise-ordered low (x ∷ xs) h zero zero le l = omega arith
rise-ordered low (x ∷ xs) h zero (suc j) le l = let b = rise-above (suc x) xs h.1 j (omega arith) in omega (arith, b)
rise-ordered low (x ∷ xs) h (suc i) zero le l = absurd (omega arith)
rise-ordered low (x ∷ xs) h (suc i) (suc j) le l = rise-ordered (suc x) xs h.1 i j (omega arith) (omega arith)

without-absent : (id : ℕ) (ids : List ℕ) → ((k : ℕ) → k < length ids → eqb (get_or ids k 0) id ≡ false) → without id ids ≡ ids
without-absent id [] h = refl
without-absent id (x ∷ xs) h = rw (h 0 (omega arith)) (ap (λ ys. x ∷ ys) (without-absent id xs (λ k l. h (suc k) (omega arith))))

pub without-searched : (ids : List ℕ) (id i : ℕ) → IdsRise 0 ids → IsBinarySearchResult (λ y. nat_cmp y id) ids (Err i) → without id ids ≡ ids
without-searched ids id i r h =
    let found = searched ids id (Err i) h (rise-ordered 0 ids r) in
    without-absent id ids (λ k l. let below = found.1 k in let above = λ (le : i ≤ k). found.2 k le l in grind (arith, nat_tests, below, above))

pub without-at : (low : ℕ) (ids : List ℕ) (i id : ℕ) → IdsRise low ids → i < length ids → get_or ids i 0 ≡ id → remove ids i ≡ without id ids
without-at low [] i id r l e = absurd (omega arith)
without-at low (x ∷ xs) zero id r l e = rw (eqb-refl x id e) refl
without-at low (x ∷ xs) (suc i) id r l e =
    let apart : eqb x id ≡ false = let b = rise-above (suc x) xs r.1 i (omega arith) in grind (arith, nat_tests, b, e) in
    rw apart (ap (λ ys. x ∷ ys) (without-at (suc x) xs i id r.1 (omega arith) e))

-- one that is there is not placed again
pub placed-at : (low : ℕ) (ids : List ℕ) (i id : ℕ) → IdsRise low ids → i < length ids → get_or ids i 0 ≡ id → placed id ids ≡ ids
placed-at low [] i id r l e = absurd (omega arith)
placed-at low (x ∷ xs) zero id r l e = listed-here true id x xs e ∙ ap (λ n. n ∷ xs) (sym e)
placed-at low (x ∷ xs) (suc i) id r l e =
    let under : x < id = let b = rise-above (suc x) xs r.1 i (omega arith) in omega (arith, b, e) in
    listed-behind true id x xs under ∙ ap (λ ys. x ∷ ys) (placed-at (suc x) xs i id r.1 (omega arith) e)

-- one that is not is placed between those below and those above
placed-between : (ids : List ℕ) (i id : ℕ) → i ≤ length ids → ((k : ℕ) → k < i → get_or ids k 0 < id) → ((k : ℕ) → i ≤ k → k < length ids → id < get_or ids k 0) → placed id ids ≡ insert ids i id
placed-between [] i id le below over = let z : i ≡ 0 = omega (arith, le) in rw z refl
placed-between (x ∷ xs) zero id le below over = let b = over 0 (omega arith) (omega arith) in let under : nat_lt id x ≡ true = grind (arith, nat_tests, b) in rw under refl
placed-between (x ∷ xs) (suc i) id le below over =
    listed-behind true id x xs (below 0 (omega arith)) ∙ ap (λ ys. x ∷ ys) (placed-between xs i id (omega arith) (λ k l. below (suc k) (omega arith)) (λ k a l. over (suc k) (omega arith) (omega arith)))

pub placed-searched : (ids : List ℕ) (id i : ℕ) → IdsRise 0 ids → IsBinarySearchResult (λ y. nat_cmp y id) ids (Err i) → placed id ids ≡ insert ids i id
placed-searched ids id i r h = let found = searched ids id (Err i) h (rise-ordered 0 ids r) in placed-between ids i id found.0 found.1 found.2

pub length-insert : (ids : List ℕ) (i id : ℕ) → i ≤ length ids → length (insert ids i id) ≡ suc (length ids)
length-insert [] i id le = let z : i ≡ 0 = omega (arith, le) in rw z refl
length-insert (x ∷ xs) zero id le = refl
length-insert (x ∷ xs) (suc i) id le = ap suc (length-insert xs i id (omega arith))

pub above-point : (ids : List ℕ) (k after : ℕ) → k ≤ length ids → AllWithin (λ y. leb y after ≡ true) ids 0 k → AllWithin (λ y. leb y after ≡ false) ids k (length ids) → drop k ids ≡ above after ids
above-point [] k after le below from = let none : k ≡ 0 = omega arith in rw none refl
above-point (x ∷ xs) zero after le below from =
    let over : nat_lt after x ≡ true = let f = from 0 0 (omega arith) (omega arith) in grind (arith, nat_tests, f) in
    rw over refl
above-point (x ∷ xs) (suc k) after le below from =
    let under : nat_lt after x ≡ false = let b = below 0 0 (omega arith) (omega arith) in grind (arith, nat_tests, b) in
    rw under (above-point xs k after (omega arith) (λ i d a b. below (suc i) d (omega arith) (omega arith)) (λ i d a b. from (suc i) d (omega arith) (omega arith)))
