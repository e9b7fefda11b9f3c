-- Laws of records in the order of rising identifiers.
use Rattle.std.proofs.Common.{◌≡◌, ℕ, zero, suc, ◌<◌, ◌≤◌, ◌%◌, Bool, true, false, cond, eqb, nat_lt, List, [], ◌∷◌, ◌++◌, length, Some, None, Option, refl, ap, ◌∙◌, sym, subst, arith, true≢false, max}
use Rattle.std.proofs.lemmas.Bool.Decides.{nat_tests}
use Rattle.std.specs.Prelude.{slice_get, slice_set, slice_index_or}
use Rattle.std.specs.List.{AllWithin}
use Rattle.std.specs.List.Sorted.{IsNonDecreasingBy}
use Rattle.std.specs.Option.{is_some, option_map_or}
use Rattle.h2_spec.specs.declared.streams.Stream.{Stream}
use Rattle.h2_spec.specs.declared.streams.StreamState.{StreamState}
use Rattle.h2_spec.specs.declared.streams.StreamState.TheVariants.{Idle}
use Rattle.h2_spec.specs.Stream.{record_of, put, AreRising, stream_at, kind_of, recorded, is_live, not_live, Records, added, with_record}
use Rattle.h2_streams.specs.Put.{can_become}
use Rattle.h2_streams.specs.Kept.{Rise, lives, passes_at, place_of}

pub eqb-same : (a b : ℕ) → eqb a b ≡ true → a ≡ b
eqb-same a b h = grind (arith, nat_tests, h)

pub rise : (low last : ℕ) (rs : List Stream) → AreRising low last rs → Rise low rs
rise low last [] h = tt
rise low last (x ∷ xs) h = (h.0, rise x.id last xs h.3)

rise-over : (low : ℕ) (rs : List Stream) → Rise low rs → (j : ℕ) (d : Stream) → j < length rs → low < (slice_index_or rs j d).id
rise-over low [] h j d l = absurd (omega arith)
rise-over low (x ∷ xs) h zero d l = h.0
rise-over low (x ∷ xs) h (suc j) d l = let b = rise-over x.id xs h.1 j d (omega arith) in let a = h.0 in omega (arith, a, b)

-- what rises does not fall
pub rise-ordered : (low : ℕ) (rs : List Stream) → Rise low rs → IsNonDecreasingBy (λ (st : Stream). st.id) rs
rise-ordered low [] h i j d le l = absurd (omega arith)
rise-ordered low (x ∷ xs) h zero zero d le l = omega arith
rise-ordered low (x ∷ xs) h zero (suc j) d le l = let b = rise-over x.id xs h.1 j d (omega arith) in omega (arith, b)
rise-ordered low (x ∷ xs) h (suc i) zero d le l = absurd (omega arith)
rise-ordered low (x ∷ xs) h (suc i) (suc j) d le l = rise-ordered x.id xs h.1 i j d (omega arith) (omega arith)

-- the point of a search is the place
pub point-place : (rs : List Stream) (k id : ℕ) → k ≤ length rs → AllWithin (λ (st : Stream). nat_lt st.id id ≡ true) rs 0 k → AllWithin (λ (st : Stream). nat_lt st.id id ≡ false) rs k (length rs) → k ≡ place_of id rs
point-place [] k id le below from = omega (arith, le)
point-place (x ∷ xs) zero id le below from = let over : nat_lt x.id id ≡ false = from 0 x (omega arith) (omega arith) in rw over refl
point-place (x ∷ xs) (suc k) id le below from =
    let under : nat_lt x.id id ≡ true = below 0 x (omega arith) (omega arith) in
    rw under (ap suc (point-place xs k id (omega arith) (λ i d a b. below (suc i) d (omega arith) (omega arith)) (λ i d a b. from (suc i) d (omega arith) (omega arith))))

-- no record is below the others
pub none-below : (id low : ℕ) (rs : List Stream) → id ≤ low → Rise low rs → record_of rs id ≡ None
none-below id low [] le h = refl
none-below id low (x ∷ xs) le h =
    let over = h.0 in
    let apart : eqb x.id id ≡ false = grind (arith, nat_tests, over, le) in
    rw apart (none-below id x.id xs (omega (arith, over, le)) h.1)

-- a record, if it has this identifier
abbrev pub checked : ℕ → Option Stream → Option Stream
checked id None = None
checked id (Some st) = cond (eqb st.id id) (Some st) None

-- a record is found at its place
pub record-at : (id low : ℕ) (rs : List Stream) → Rise low rs → checked id (slice_get rs (place_of id rs)) ≡ record_of rs id
record-at id low [] h = refl
record-at id low (x ∷ xs) h = at (nat_lt x.id id) refl (record-at id x.id xs h.1)
  where
    at : (t : Bool) → nat_lt x.id id ≡ t → checked id (slice_get xs (place_of id xs)) ≡ record_of xs id →
        checked id (slice_get (x ∷ xs) (cond t (suc (place_of id xs)) 0)) ≡ cond (eqb x.id id) (Some x) (record_of xs id)
    at true e more = let apart : eqb x.id id ≡ false = grind (arith, nat_tests, e) in rw apart more
    at false e more =
        let le : id ≤ x.id = grind (arith, nat_tests, e) in
        ap (λ o. cond (eqb x.id id) (Some x) o) (sym (none-below id x.id xs le h.1))

-- where there is a record, its place is in the list
pub place-within : (id low : ℕ) (rs : List Stream) → Rise low rs → is_some (record_of rs id) ≡ true → place_of id rs < length rs
place-within id low [] h known = absurd (true≢false (sym known))
place-within id low (x ∷ xs) h known = at (nat_lt x.id id) refl (place-within id x.id xs h.1)
  where
    at : (t : Bool) → nat_lt x.id id ≡ t → (is_some (record_of xs id) ≡ true → place_of id xs < length xs) → cond t (suc (place_of id xs)) 0 < suc (length xs)
    at true e more =
        let apart : eqb x.id id ≡ false = grind (arith, nat_tests, e) in
        let tail = more (ap (λ t. is_some (cond t (Some x) (record_of xs id))) (sym apart) ∙ known) in
        omega (arith, tail)
    at false e more = omega arith

-- a record that is written at its place is put
pub put-at : (st : Stream) (low : ℕ) (rs : List Stream) → Rise low rs → is_some (record_of rs st.id) ≡ true → slice_set rs (place_of st.id rs) st ≡ put st rs
put-at st low [] h known = absurd (true≢false (sym known))
put-at st low (x ∷ xs) h known = at (nat_lt x.id st.id) refl (put-at st x.id xs h.1)
  where
    same : (t : Bool) → eqb x.id st.id ≡ t → nat_lt x.id st.id ≡ false → st ∷ xs ≡ cond t (st ∷ xs) (x ∷ put st xs)
    same true f e = refl
    same false f e =
        let le : st.id ≤ x.id = grind (arith, nat_tests, e) in
        let none = none-below st.id x.id xs le h.1 in
        let g : is_some (record_of (x ∷ xs) st.id) ≡ false = rw f (ap is_some none) in
        absurd (true≢false (sym known ∙ g))

    at : (t : Bool) → nat_lt x.id st.id ≡ t → (is_some (record_of xs st.id) ≡ true → slice_set xs (place_of st.id xs) st ≡ put st xs) →
        slice_set (x ∷ xs) (cond t (suc (place_of st.id xs)) 0) st ≡ cond (eqb x.id st.id) (st ∷ xs) (x ∷ put st xs)
    at true e more =
        let apart : eqb x.id st.id ≡ false = grind (arith, nat_tests, e) in
        rw apart (ap (λ ys. x ∷ ys) (more (ap (λ t. is_some (cond t (Some x) (record_of xs st.id))) (sym apart) ∙ known)))
    at false e more = same (eqb x.id st.id) refl e

-- the record that is found has the identifier
pub found-id : (rs : List Stream) (id : ℕ) (st : Stream) → record_of rs id ≡ Some st → st.id ≡ id
found-id [] id st h = cc
found-id (x ∷ xs) id st h = by (eqb x.id id) refl (found-id xs id st) where
  by : (b : Bool) → eqb x.id id ≡ b → (record_of xs id ≡ Some st → st.id ≡ id) → st.id ≡ id
  by true e rest = let g : Some x ≡ Some st = rw e at h in let f : st ≡ x = cc in ap (λ (y : Stream). y.id) f ∙ eqb-same x.id id e
  by false e rest = let g : record_of xs id ≡ Some st = rw e at h in rest g

-- a record of another stream goes last
pub put-new : (low last : ℕ) (rs : List Stream) (st : Stream) → AreRising low last rs → last < st.id → put st rs ≡ rs ++ st ∷ []
put-new low last [] st h l = refl
put-new low last (x ∷ xs) st h l =
    let apart : eqb x.id st.id ≡ false = let le = h.2 in grind (arith, nat_tests, le, l) in
    rw apart (ap (λ ys. x ∷ ys) (put-new x.id last xs st h.3 l))

-- a stream above the others opens: identifiers still rise
pub rising-push : (low last : ℕ) (rs : List Stream) (st : Stream) → AreRising low last rs → low ≤ last → last < st.id → st.id % 2 ≡ 1 → AreRising low st.id (rs ++ st ∷ [])
rising-push low last [] st h b l odd = (omega arith, odd, omega arith, tt)
rising-push low last (x ∷ xs) st h b l odd = (h.0, h.1, let le = h.2 in omega arith, rising-push x.id last xs st h.3 h.2 l odd)

-- a record is written: identifiers still rise
pub rising-put : (low last : ℕ) (rs : List Stream) (st old : Stream) → AreRising low last rs → record_of rs st.id ≡ Some old → AreRising low last (put st rs)
rising-put low last [] st old h f = cc
rising-put low last (x ∷ xs) st old h f = by (eqb x.id st.id) refl (rising-put x.id last xs st old h.3) where
  by : (b : Bool) → eqb x.id st.id ≡ b → (record_of xs st.id ≡ Some old → AreRising x.id last (put st xs)) → AreRising low last (cond (eqb x.id st.id) (st ∷ xs) (x ∷ put st xs))
  by true e rest = rw e (subst (λ n. (low < n) × (n % 2 ≡ 1) × (n ≤ last) × AreRising n last xs) (eqb-same x.id st.id e) h)
  by false e rest = let g : record_of xs st.id ≡ Some old = rw e at f in rw e (h.0, h.1, h.2, rest g)

-- a live or closed stream has a record
pub recorded-found : (last : ℕ) (rs : List Stream) (id : ℕ) (now : StreamState) → can_become (kind_of last rs id) now ≡ true → (old : Stream) × (record_of rs id ≡ Some old) × (can_become old.kind now ≡ true)
unfolding stream_at
recorded-found last rs id now h = by_test (eqb (id % 2) 0) (nat_lt last id) (record_of rs id) refl h where
  by_record : (o : Option Stream) → record_of rs id ≡ o → can_become (recorded id o).kind now ≡ true → (old : Stream) × (record_of rs id ≡ Some old) × (can_become old.kind now ≡ true)
  by_record None e k = absurd (true≢false (sym k))
  by_record (Some st) e k = (st, e, k)

  by_test : (a b : Bool) (o : Option Stream) → record_of rs id ≡ o → can_become (cond a (not_live id Idle) (cond b (not_live id Idle) (recorded id o))).kind now ≡ true
      → (old : Stream) × (record_of rs id ≡ Some old) × (can_become old.kind now ≡ true)
  by_test true b o e k = absurd (true≢false (sym k))
  by_test false true o e k = absurd (true≢false (sym k))
  by_test false false o e k = by_record o e k

-- a record of a stream above the others goes last, and is then the last that was opened
pub added-is-put : (st : Stream) (r : Records) → AreRising 0 r.last r.streams → r.last < st.id → added st r ≡ with_record st r
added-is-put st r h l =
    let top : st.id ≡ max r.last st.id = omega arith in
    let streams = sym (put-new 0 r.last r.streams st h l) in
    ap (λ (xs : List Stream). let s : Records = record { streams = xs; last = st.id } in s) streams ∙ ap (λ n. let s : Records = record { streams = put st r.streams; last = n } in s) top

-- a live stream's record is found
pub live-found : (last : ℕ) (rs : List Stream) (id : ℕ) → is_live (kind_of last rs id) ≡ true → record_of rs id ≡ Some (stream_at last rs id)
unfolding stream_at
live-found last rs id h = by_test (eqb (id % 2) 0) (nat_lt last id) (record_of rs id) h where
  by_test : (a b : Bool) (o : Option Stream) → is_live (cond a (not_live id Idle) (cond b (not_live id Idle) (recorded id o))).kind ≡ true → o ≡ Some (cond a (not_live id Idle) (cond b (not_live id Idle) (recorded id o)))
  by_test true b o k = absurd (true≢false (sym k))
  by_test false true o k = absurd (true≢false (sym k))
  by_test false false None k = absurd (true≢false (sym k))
  by_test false false (Some st) k = refl

-- a stream that has a record is not idle
not-idle : (low last : ℕ) (rs : List Stream) (id : ℕ) (st : Stream) → AreRising low last rs → record_of rs id ≡ Some st → (eqb (id % 2) 0 ≡ false) × (nat_lt last id ≡ false)
not-idle low last [] id st h f = cc
not-idle low last (x ∷ xs) id st h f = by (eqb x.id id) refl (not-idle x.id last xs id st h.3) where
  by : (b : Bool) → eqb x.id id ≡ b → (record_of xs id ≡ Some st → (eqb (id % 2) 0 ≡ false) × (nat_lt last id ≡ false)) → (eqb (id % 2) 0 ≡ false) × (nat_lt last id ≡ false)
  by true e rest =
      let within = h.2 in
      let here : nat_lt last x.id ≡ false = grind (arith, nat_tests, within) in
      subst (λ n. (eqb (n % 2) 0 ≡ false) × (nat_lt last n ≡ false)) (eqb-same x.id id e) (ap (λ n. eqb n 0) h.1, here)
  by false e rest = let g : record_of xs id ≡ Some st = rw e at f in rest g

-- and is its record
pub found-stream : (last : ℕ) (rs : List Stream) (id : ℕ) (st : Stream) → AreRising 0 last rs → record_of rs id ≡ Some st → stream_at last rs id ≡ st
unfolding stream_at
found-stream last rs id st h f = let there = not-idle 0 last rs id st h f in rw (there.0, there.1, f) refl

-- a live stream's record has its identifier
pub live-id : (last : ℕ) (rs : List Stream) (id : ℕ) → is_live (kind_of last rs id) ≡ true → (stream_at last rs id).id ≡ id
live-id last rs id h = found-id rs id (stream_at last rs id) (live-found last rs id h)

-- and is not above the last one
pub live-within : (last : ℕ) (rs : List Stream) (id : ℕ) → is_live (kind_of last rs id) ≡ true → id ≤ last
unfolding stream_at
live-within last rs id h = by_test (eqb (id % 2) 0) (nat_lt last id) refl h where
  by_test : (a b : Bool) → nat_lt last id ≡ b → is_live (cond a (not_live id Idle) (cond b (not_live id Idle) (recorded id (record_of rs id)))).kind ≡ true → id ≤ last
  by_test true b e k = absurd (true≢false (sym k))
  by_test false true e k = absurd (true≢false (sym k))
  by_test false false e k = grind (arith, nat_tests, e)

-- a test is passed at a place in the list, and there it is passed by the record
pub passes-within : (test : Stream → Bool) (rs : List Stream) (p : ℕ) → passes_at test rs p ≡ true → p < length rs
passes-within test [] p h = absurd (true≢false (sym h))
passes-within test (x ∷ xs) zero h = omega arith
passes-within test (x ∷ xs) (suc p) h = let rest = passes-within test xs p h in omega (arith, rest)

pub passes-is : (test : Stream → Bool) (rs : List Stream) (p : ℕ) (d : Stream) → p < length rs → passes_at test rs p ≡ test (slice_index_or rs p d)
passes-is test [] p d l = absurd (omega (arith, l))
passes-is test (x ∷ xs) zero d l = refl
passes-is test (x ∷ xs) (suc p) d l = passes-is test xs p d (omega (arith, l))

-- a record with this identifier is at the place
pub place-found : (id low : ℕ) (rs : List Stream) (p : ℕ) → Rise low rs → passes_at (λ st. eqb st.id id) rs p ≡ true → (low < id) × (p ≡ place_of id rs)
place-found id low [] p h k = absurd (true≢false (sym k))
place-found id low (x ∷ xs) zero h k =
    let same = eqb-same x.id id k in
    let here : nat_lt x.id id ≡ false = grind (arith, nat_tests, same) in
    let l = h.0 in
    (omega (arith, l, same), rw here refl)
place-found id low (x ∷ xs) (suc p) h k =
    let rest = place-found id x.id xs p h.1 k in
    let over = rest.0 in
    let under : nat_lt x.id id ≡ true = grind (arith, nat_tests, over) in
    let l = h.0 in
    (omega (arith, l, over), rw under (ap suc rest.1))

-- and is the one that is found
pub found-there : (id : ℕ) (rs : List Stream) (p : ℕ) → Rise 0 rs → passes_at (λ st. eqb st.id id) rs p ≡ true → slice_get rs p ≡ record_of rs id
found-there id rs p h k = by (slice_get rs p) k ∙ ap (λ i. checked id (slice_get rs i)) (place-found id 0 rs p h k).1 ∙ record-at id 0 rs h where
  by : (o : Option Stream) → option_map_or (λ (st : Stream). eqb st.id id) o false ≡ true → o ≡ checked id o
  by None e = refl
  by (Some st) e = rw e refl

-- a stream whose identifier a live record has is live
pub live-there : (last : ℕ) (rs : List Stream) (id p : ℕ) → AreRising 0 last rs → passes_at (λ st. eqb st.id id) rs p ≡ true → passes_at lives rs p ≡ true → is_live (kind_of last rs id) ≡ true
live-there last rs id p h at live = by (record_of rs id) refl (ap (λ (o : Option Stream). option_map_or lives o false) (sym (found-there id rs p (rise 0 last rs h) at)) ∙ live) where
  by : (o : Option Stream) → record_of rs id ≡ o → option_map_or lives o false ≡ true → is_live (kind_of last rs id) ≡ true
  by None e k = absurd (true≢false (sym k))
  by (Some st) e k = ap (λ (x : Stream). is_live x.kind) (found-stream last rs id st h e) ∙ k

-- what a test says of the record with an identifier is what it says at its place
pub test-there : (test : Stream → Bool) (id low : ℕ) (rs : List Stream) → Rise low rs → is_some (record_of rs id) ≡ true → passes_at test rs (place_of id rs) ≡ option_map_or test (record_of rs id) false
test-there test id low rs h known = by (slice_get rs (place_of id rs)) (record-at id low rs h) where
  by : (o : Option Stream) → checked id o ≡ record_of rs id → option_map_or test o false ≡ option_map_or test (record_of rs id) false
  by None e = absurd (true≢false (sym (ap is_some e ∙ known)))
  by (Some x) e = at (eqb x.id id) e where
    at : (b : Bool) → cond b (Some x) None ≡ record_of rs id → test x ≡ option_map_or test (record_of rs id) false
    at true g = ap (λ o. option_map_or test o false) g
    at false g = absurd (true≢false (sym (ap is_some g ∙ known)))
