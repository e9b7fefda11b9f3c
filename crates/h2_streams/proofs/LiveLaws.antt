-- What holds of the map of the live streams, and what is found or changed by way of it.
use Rattle.std.proofs.Common.{◌≡◌, ℕ, suc, ◌+◌, ◌*◌, ◌<◌, ◌≤◌, ◌%◌, Bool, true, false, ◌&&◌, ◌||◌, not, nat_eq, nat_lt, map, filter, cond, eqb, List, [], ◌∷◌, ◌++◌, length, find, Some, None, IfSome, IsOk, OnOk, Ok, Err, Result, Option, refl, ap, ◌∙◌, sym, arith, true≢false}
use Rattle.std.proofs.lemmas.Bool.Decides.{nat_tests}
use Rattle.std.proofs.lemmas.List.{length-map, map-append}
use Rattle.std.proofs.lemmas.List.Recursion.{is_count_by}
use Rattle.std.specs.Prelude.{slice_get}
use Rattle.std.specs.List.{AllByRecursion, list_any}
use Rattle.std.specs.Map.{keys_of, lookup, values_of}
use Rattle.std.specs.Option.{option_map}
use Rattle.h2_spec.specs.declared.streams.Stream.{Stream}
use Rattle.h2_spec.specs.Stream.{is_live, octets_waiting, waits_above, record_of, put, id_of, live_count, AreRising}
use Rattle.h2_streams.specs.Put.{can_become, is_closed}
use Rattle.h2_streams.specs.Kept.{are_dropped, ended_left, entries_left, entries_of, ids_of, is_entered, next_entry, places_of, lives, is_ready, passes_at, id_if, ids_at, listed, IsKept}
use Rattle.h2_streams.specs.Shift.{update, update_each}
use Rattle.h2_streams.proofs.IdsLaws.{ids_of-append, ids_of-put, ready-lives}
use Rattle.h2_streams.proofs.PlaceLaws.{rising-push, rising-put}

-- ---- identifiers and places

values-next : (es : List (ℕ × ℕ)) → values_of (map next_entry es) ≡ map suc (values_of es)
values-next [] = refl
values-next (e ∷ es) = ap (λ ps. suc e.1 ∷ ps) (values-next es)

keys-next : (es : List (ℕ × ℕ)) → keys_of (map next_entry es) ≡ keys_of es
keys-next [] = refl
keys-next (e ∷ es) = ap (λ ids. e.0 ∷ ids) (keys-next es)

pub entered-places : (test : Stream → Bool) (rs : List Stream) → values_of (entries_of test rs) ≡ places_of test rs
entered-places test [] = refl
entered-places test (x ∷ xs) = by (test x) (values-next (entries_of test xs) ∙ ap (map suc) (entered-places test xs)) where
  by : (b : Bool) → values_of (map next_entry (entries_of test xs)) ≡ map suc (places_of test xs)
      → values_of (cond b ((x.id, 0) ∷ map next_entry (entries_of test xs)) (map next_entry (entries_of test xs))) ≡ cond b (0 ∷ map suc (places_of test xs)) (map suc (places_of test xs))
  by true rest = ap (λ ps. 0 ∷ ps) rest
  by false rest = rest

pub entered-ids : (test : Stream → Bool) (rs : List Stream) → keys_of (entries_of test rs) ≡ ids_of test rs
entered-ids test [] = refl
entered-ids test (x ∷ xs) = by (test x) (keys-next (entries_of test xs) ∙ entered-ids test xs) where
  by : (b : Bool) → keys_of (map next_entry (entries_of test xs)) ≡ ids_of test xs
      → keys_of (cond b ((x.id, 0) ∷ map next_entry (entries_of test xs)) (map next_entry (entries_of test xs))) ≡ cond b (x.id ∷ ids_of test xs) (ids_of test xs)
  by true rest = ap (λ ids. x.id ∷ ids) rest
  by false rest = rest

-- one more record
pub entries-append : (test : Stream → Bool) (rs : List Stream) (st : Stream) → entries_of test (rs ++ st ∷ []) ≡ entries_of test rs ++ cond (test st) ((st.id, length rs) ∷ []) []
entries-append test [] st = by (test st) where
  by : (b : Bool) → cond {A = List (ℕ × ℕ)} b ((st.id, 0) ∷ []) [] ≡ [] ++ cond b ((st.id, 0) ∷ []) []
  by true = refl
  by false = refl
entries-append test (x ∷ xs) st =
    by (test x)
    (ap (map next_entry) (entries-append test xs st) ∙ map-append next_entry (entries_of test xs) (cond (test st) ((st.id, length xs) ∷ []) []) ∙ ap (λ ys. map next_entry (entries_of test xs) ++ ys) (last (test st)))
  where
    last : (b : Bool) → map next_entry (cond b ((st.id, length xs) ∷ []) []) ≡ cond b ((st.id, suc (length xs)) ∷ []) []
    last true = refl
    last false = refl

    by : (b : Bool) → map next_entry (entries_of test (xs ++ st ∷ [])) ≡ map next_entry (entries_of test xs) ++ cond (test st) ((st.id, suc (length xs)) ∷ []) []
        → cond b ((x.id, 0) ∷ map next_entry (entries_of test (xs ++ st ∷ []))) (map next_entry (entries_of test (xs ++ st ∷ [])))
        ≡ cond b ((x.id, 0) ∷ map next_entry (entries_of test xs)) (map next_entry (entries_of test xs)) ++ cond (test st) ((st.id, suc (length xs)) ∷ []) []
    by true rest = ap (λ ys. (x.id, 0) ∷ ys) rest
    by false rest = rest

-- two tests that answer alike above an identifier
entries-alike : (s t : Stream → Bool) (low last : ℕ) (rs : List Stream) → AreRising low last rs → ((st : Stream) → low < st.id → s st ≡ t st) → entries_of s rs ≡ entries_of t rs
entries-alike s t low last [] h a = refl
entries-alike s t low last (x ∷ xs) h a =
    let over = h.0 in
    let rest = entries-alike s t x.id last xs h.3 (λ st l. a st (omega (arith, over, l))) in
    ap (λ b. cond b ((x.id, 0) ∷ map next_entry (entries_of s xs)) (map next_entry (entries_of s xs))) (a x over) ∙ ap (λ es. cond (t x) ((x.id, 0) ∷ map next_entry es) (map next_entry es)) rest

-- a record that is written: where the tests answer alike for the others, and for the old and the new one, the entries
-- stay
entries-put : (s t : Stream → Bool) (low last : ℕ) (rs : List Stream) (st old : Stream) → AreRising low last rs → record_of rs st.id ≡ Some old → s old ≡ t st → ((x : Stream) → eqb x.id st.id ≡ false → s x ≡ t x)
    → entries_of t (put st rs) ≡ entries_of s rs
entries-put s t low last [] st old h f same others = cc
entries-put s t low last (x ∷ xs) st old h f same others = at (eqb x.id st.id) refl (entries-put s t x.id last xs st old h.3) where
  at : (b : Bool) → eqb x.id st.id ≡ b → (record_of xs st.id ≡ Some old → s old ≡ t st → ((y : Stream) → eqb y.id st.id ≡ false → s y ≡ t y) → entries_of t (put st xs) ≡ entries_of s xs)
      → entries_of t (cond b (st ∷ xs) (x ∷ put st xs)) ≡ cond (s x) ((x.id, 0) ∷ map next_entry (entries_of s xs)) (map next_entry (entries_of s xs))
  at true e rest =
      let g : Some x ≡ Some old = rw e at f in
      let one : x ≡ old = cc in
      let id : x.id ≡ st.id = Rattle.h2_streams.proofs.IdsLaws.eqb-same x.id st.id e in
      let alike : s x ≡ t st = ap s one ∙ same in
      let tail = entries-alike s t x.id last xs h.3 (λ y l. others y (grind (arith, nat_tests, l, id))) in
      sym (ap (λ b. cond b ((x.id, 0) ∷ map next_entry (entries_of s xs)) (map next_entry (entries_of s xs))) alike
      ∙ ap (λ es. cond (t st) ((x.id, 0) ∷ map next_entry es) (map next_entry es)) tail
      ∙ ap (λ n. cond (t st) ((n, 0) ∷ map next_entry (entries_of t xs)) (map next_entry (entries_of t xs))) id)
  at false e rest =
      let g : record_of xs st.id ≡ Some old = rw e at f in
      ap (λ es. cond (t x) ((x.id, 0) ∷ map next_entry es) (map next_entry es)) (rest g same others)
      ∙ ap (λ b. cond b ((x.id, 0) ∷ map next_entry (entries_of s xs)) (map next_entry (entries_of s xs))) (sym (others x e))

-- those of the entries whose records pass another test
filter-behind : (test : Stream → Bool) (x : Stream) (rs : List Stream) (es : List (ℕ × ℕ)) → filter (λ e. passes_at test (x ∷ rs) e.1) (map next_entry es) ≡ map next_entry (filter (λ e. passes_at test rs e.1) es)
filter-behind test x rs [] = refl
filter-behind test x rs (e ∷ es) = by (passes_at test rs e.1) (filter-behind test x rs es) where
  by : (b : Bool) → filter (λ d. passes_at test (x ∷ rs) d.1) (map next_entry es) ≡ map next_entry (filter (λ d. passes_at test rs d.1) es)
      → cond b (next_entry e ∷ filter (λ d. passes_at test (x ∷ rs) d.1) (map next_entry es)) (filter (λ d. passes_at test (x ∷ rs) d.1) (map next_entry es))
      ≡ map next_entry (cond b (e ∷ filter (λ d. passes_at test rs d.1) es) (filter (λ d. passes_at test rs d.1) es))
  by true rest = ap (λ ds. next_entry e ∷ ds) rest
  by false rest = rest

filter-entries : (s t : Stream → Bool) → ((st : Stream) → s st ≡ false → t st ≡ false) → (rs : List Stream) → filter (λ e. passes_at t rs e.1) (entries_of s rs) ≡ entries_of t rs
filter-entries s t less [] = refl
filter-entries s t less (x ∷ xs) = by (s x) refl (t x) refl (filter-behind t x xs (entries_of s xs) ∙ ap (map next_entry) (filter-entries s t less xs)) where
  by : (a : Bool) → s x ≡ a → (b : Bool) → t x ≡ b → filter (λ e. passes_at t (x ∷ xs) e.1) (map next_entry (entries_of s xs)) ≡ map next_entry (entries_of t xs)
      → filter (λ e. passes_at t (x ∷ xs) e.1) (cond a ((x.id, 0) ∷ map next_entry (entries_of s xs)) (map next_entry (entries_of s xs)))
      ≡ cond b ((x.id, 0) ∷ map next_entry (entries_of t xs)) (map next_entry (entries_of t xs))
  by true e true f rest = rw f (ap (λ ds. (x.id, 0) ∷ ds) rest)
  by true e false f rest = rw f rest
  by false e true f rest = absurd (true≢false (sym f ∙ less x e))
  by false e false f rest = rest

-- ---- how many are live

length-entered : (test : Stream → Bool) (rs : List Stream) → length (entries_of test rs) ≡ length (places_of test rs)
length-entered test rs = sym (length-map (entries_of test rs) (λ (e : ℕ × ℕ). e.1)) ∙ ap length (entered-places test rs)

length-lives : (rs : List Stream) → length (places_of lives rs) ≡ live_count rs
length-lives rs = is_count_by (λ (xs : List Stream). length (places_of lives xs)) (λ (st : Stream). is_live st.kind) refl (λ x xs. by (is_live x.kind) (places_of lives xs)) rs where
  by : (b : Bool) (ps : List ℕ) → length (cond b (0 ∷ map suc ps) (map suc ps)) ≡ cond b (1 + length ps) (length ps)
  by true ps = let same = length-map ps suc in omega (arith, same)
  by false ps = length-map ps suc

abbrev pub as_count : Bool → ℕ
as_count b = cond b 1 0

pub count-cons : (x : Stream) (xs : List Stream) → live_count (x ∷ xs) ≡ as_count (lives x) + live_count xs
count-cons x xs = sym (length-lives (x ∷ xs)) ∙ by (lives x) where
  by : (b : Bool) → length (cond b (0 ∷ map suc (places_of lives xs)) (map suc (places_of lives xs))) ≡ as_count b + live_count xs
  by true = let same = length-map (places_of lives xs) suc in let n = length-lives xs in omega (arith, same, n)
  by false = let same = length-map (places_of lives xs) suc in let n = length-lives xs in omega (arith, same, n)

count-append : (rs : List Stream) (st : Stream) → live_count (rs ++ st ∷ []) ≡ live_count rs + as_count (lives st)
count-append [] st = let one = count-cons st [] in omega (arith, one)
count-append (x ∷ xs) st = let longer = count-cons x (xs ++ st ∷ []) in let shorter = count-cons x xs in let rest = count-append xs st in omega (arith, longer, shorter, rest)

count-put : (rs : List Stream) (st old : Stream) → record_of rs st.id ≡ Some old → live_count (put st rs) + as_count (lives old) ≡ live_count rs + as_count (lives st)
count-put [] st old f = cc
count-put (x ∷ xs) st old f = at (eqb x.id st.id) refl (count-put xs st old) where
  at : (b : Bool) → eqb x.id st.id ≡ b → (record_of xs st.id ≡ Some old → live_count (put st xs) + as_count (lives old) ≡ live_count xs + as_count (lives st))
      → live_count (cond b (st ∷ xs) (x ∷ put st xs)) + as_count (lives old) ≡ live_count (x ∷ xs) + as_count (lives st)
  at true e rest =
      let g : Some x ≡ Some old = rw e at f in
      let one : x ≡ old = cc in
      let same = ap (λ (y : Stream). as_count (lives y)) one in
      let now = count-cons st xs in
      let was = count-cons x xs in
      omega (arith, same, now, was)
  at false e rest =
      let g : record_of xs st.id ≡ Some old = rw e at f in
      let now = count-cons x (put st xs) in
      let was = count-cons x xs in
      let tail = rest g in
      omega (arith, now, was, tail)

-- ---- what is in the map

-- a stream that is not in the map is not live
pub unentered : (left : ℕ → Bool) (st : Stream) → is_entered left st ≡ false → is_live st.kind ≡ false
unentered left st = by (is_live st.kind) where
  by : (b : Bool) → (b || left st.id) ≡ false → b ≡ false
  by true h = absurd (true≢false h)
  by false h = refl

-- of a live or closed stream: a live one was live
was-live : (a b t : Bool) → (a || (b && not t)) ≡ true → t ≡ true → a ≡ true
was-live true b t h e = refl
was-live false true true h e = absurd (true≢false (sym h))
was-live false true false h e = absurd (true≢false (sym e))
was-live false false t h e = absurd (true≢false (sym h))

-- the identifiers of streams that ended, once this stream has this record
abbrev left_after : (ℕ → Bool) → ℕ → Bool → ℕ → Bool
left_after left id was other = cond (eqb other id) was (left other)

entered-put : (left : ℕ → Bool) (last : ℕ) (rs : List Stream) (st old : Stream) → AreRising 0 last rs → record_of rs st.id ≡ Some old → can_become old.kind st.kind ≡ true → old.id ≡ st.id
    → entries_of (is_entered (left_after left st.id (is_entered left old))) (put st rs) ≡ entries_of (is_entered left) rs
entered-put left last rs st old h f can same =
    entries-put (is_entered left) (is_entered (left_after left st.id (is_entered left old))) 0 last rs st old h f here (λ x e. ap (λ b. is_live x.kind || b) (rw e refl)) where
      stays : (a t l : Bool) → (t ≡ true → a ≡ true) → (a || l) ≡ (t || (a || l))
      stays a true l g = rw (g refl) refl
      stays a false l g = refl

      here : is_entered left old ≡ is_entered (left_after left st.id (is_entered left old)) st
      here =
          let own : eqb st.id st.id ≡ true = Rattle.h2_streams.proofs.IdsLaws.eqb-refl st.id st.id refl in
          rw own (stays (is_live old.kind) (is_live st.kind) (left old.id) (was-live (is_live old.kind) (is_closed old.kind) (is_live st.kind) can))

-- what is below all identifiers in the map is not found in it
absent-over : (id : ℕ) (es : List (ℕ × ℕ)) → AllByRecursion (λ (k : ℕ). k < id) (keys_of es) → lookup (nat_eq id) es ≡ None
absent-over id [] h = refl
absent-over id (e ∷ es) h = let l = h.0 in let apart : nat_eq id e.0 ≡ false = grind (arith, nat_tests, l) in rw apart (absent-over id es h.1)

ids-below : (test : Stream → Bool) (low last id : ℕ) (rs : List Stream) → AreRising low last rs → last < id → AllByRecursion (λ (k : ℕ). k < id) (ids_of test rs)
ids-below test low last id [] h l = tt
ids-below test low last id (x ∷ xs) h l = by (test x) (ids-below test x.id last id xs h.3 l) where
  by : (b : Bool) → AllByRecursion (λ (k : ℕ). k < id) (ids_of test xs) → AllByRecursion (λ (k : ℕ). k < id) (cond b (x.id ∷ ids_of test xs) (ids_of test xs))
  by true rest = (let le = h.2 in omega (arith, le, l), rest)
  by false rest = rest

-- ---- what is found at the places

any-behind : (test : Stream → Bool) (x : Stream) (rs : List Stream) (ps : List ℕ) → list_any (passes_at test (x ∷ rs)) (map suc ps) ≡ list_any (passes_at test rs) ps
any-behind test x rs [] = refl
any-behind test x rs (p ∷ ps) = ap (λ b. passes_at test rs p || b) (any-behind test x rs ps)

-- a test that no stream passes but one of these is asked of these
pub any-live : (among test : Stream → Bool) → ((st : Stream) → among st ≡ false → test st ≡ false) → (rs : List Stream) → list_any (passes_at test rs) (places_of among rs) ≡ list_any test rs
any-live among test idle [] = refl
any-live among test idle (x ∷ xs) = by (among x) refl (any-behind test x xs (places_of among xs) ∙ any-live among test idle xs) where
  by : (b : Bool) → among x ≡ b → list_any (passes_at test (x ∷ xs)) (map suc (places_of among xs)) ≡ list_any test xs
      → list_any (passes_at test (x ∷ xs)) (cond (among x) (0 ∷ map suc (places_of among xs)) (map suc (places_of among xs))) ≡ list_any test (x ∷ xs)
  by true live rest = rw live (ap (λ b. test x || b) rest)
  by false live rest = rw (live, idle x live) rest

ids-behind : (test : Stream → Bool) (x : Stream) (rs : List Stream) (ps : List ℕ) → ids_at test (x ∷ rs) (map suc ps) ≡ ids_at test rs ps
ids-behind test x rs [] = refl
ids-behind test x rs (p ∷ ps) = ap (λ ids. id_if test (slice_get rs p) ++ ids) (ids-behind test x rs ps)

-- those of these that pass such a test are all that pass it
pub ids-live : (among test : Stream → Bool) → ((st : Stream) → among st ≡ false → test st ≡ false) → (rs : List Stream) → ids_at test rs (places_of among rs) ≡ ids_of test rs
ids-live among test idle [] = refl
ids-live among test idle (x ∷ xs) = by (among x) refl (ids-behind test x xs (places_of among xs) ∙ ids-live among test idle xs) where
  first : (t : Bool) (ids : List ℕ) → cond t (x.id ∷ []) [] ++ ids ≡ cond t (x.id ∷ ids) ids
  first true ids = refl
  first false ids = refl

  by : (b : Bool) → among x ≡ b → ids_at test (x ∷ xs) (map suc (places_of among xs)) ≡ ids_of test xs
      → ids_at test (x ∷ xs) (cond (among x) (0 ∷ map suc (places_of among xs)) (map suc (places_of among xs))) ≡ ids_of test (x ∷ xs)
  by true live rest = rw live (ap (λ ids. cond (test x) (x.id ∷ []) [] ++ ids) rest ∙ first (test x) (ids_of test xs))
  by false live rest = rw (live, idle x live) rest

-- the first that is listed is the first that passes the test
pub first-of : (test : Stream → Bool) (rs : List Stream) → slice_get (ids_of test rs) 0 ≡ option_map id_of (find test rs)
first-of test [] = refl
first-of test (x ∷ xs) = by (test x) (first-of test xs) where
  by : (t : Bool) → slice_get (ids_of test xs) 0 ≡ option_map id_of (find test xs) → slice_get (cond t (x.id ∷ ids_of test xs) (ids_of test xs)) 0 ≡ option_map id_of (cond t (Some x) (find test xs))
  by true rest = refl
  by false rest = rest

above-low : (test : Stream → Bool) (n low last : ℕ) (rs : List Stream) → n ≤ low → AreRising low last rs → AllByRecursion (λ st. test st ≡ true → n ≤ st.id) rs
above-low test n low last [] le r = tt
above-low test n low last (x ∷ xs) le r = let over = r.0 in ((λ _. omega arith), above-low test n x.id last xs (omega arith) r.3)

-- the first that passes a test has the least identifier of those that do
pub find-least : (test : Stream → Bool) (low last : ℕ) (rs : List Stream) → AreRising low last rs → IfSome (option_map id_of (find test rs)) (λ id. AllByRecursion (λ st. test st ≡ true → id ≤ st.id) rs)
find-least test low last [] r = tt
find-least test low last (x ∷ xs) r = by (test x) refl (find test xs) (find-least test x.id last xs r.3) where
  by : (b : Bool) → test x ≡ b → (found : Option Stream) → IfSome (option_map id_of found) (λ id. AllByRecursion (λ st. test st ≡ true → id ≤ st.id) xs)
      → IfSome (option_map id_of (cond b (Some x) found)) (λ id. AllByRecursion (λ st. test st ≡ true → id ≤ st.id) (x ∷ xs))
  by true e found rest = ((λ _. omega arith), above-low test x.id x.id last xs (omega arith) r.3)
  by false e None rest = tt
  by false e (Some st) rest = ((λ passes. absurd (true≢false (sym passes ∙ e))), rest)

-- a stream that has octets to send is live
pub idle-waits : (after : ℕ) (st : Stream) → is_live st.kind ≡ false → waits_above after st ≡ false
unfolding octets_waiting
idle-waits after st e = rw e (by (nat_lt after st.id))
  where
    by : (t : Bool) → (t && false) ≡ false
    by true = refl
    by false = refl

-- ---- what is changed at the places

each-behind : (f : Stream → Stream) (x : Stream) (ps : List ℕ) (rs : List Stream) → update_each f (map suc ps) (x ∷ rs) ≡ x ∷ update_each f ps rs
each-behind f x [] rs = refl
each-behind f x (p ∷ ps) rs = each-behind f x ps (update f p rs)

-- what is done to these streams, one after another, is done to all, where it leaves the others
pub each-live : (among : Stream → Bool) (f : Stream → Stream) → ((st : Stream) → among st ≡ false → f st ≡ st) → (rs : List Stream) → update_each f (places_of among rs) rs ≡ map f rs
each-live among f idle [] = refl
each-live among f idle (x ∷ xs) = by (among x) refl (each-live among f idle xs) where
  by : (b : Bool) → among x ≡ b → update_each f (places_of among xs) xs ≡ map f xs
      → update_each f (cond (among x) (0 ∷ map suc (places_of among xs)) (map suc (places_of among xs))) (x ∷ xs) ≡ map f (x ∷ xs)
  by true live rest = rw live (each-behind f (f x) (places_of among xs) xs ∙ ap (λ ys. f x ∷ ys) rest)
  by false live rest = rw (live, idle x live) (each-behind f x (places_of among xs) xs ∙ ap (λ ys. x ∷ ys) rest)

-- ---- what is kept

module _ (rs : List Stream) (es : List (ℕ × ℕ)) (ended : ℕ) (ready : List ℕ) (last : ℕ) (kept : IsKept rs es ended ready last) where
  -- the places are those of the streams in the map
  pub kept-places : values_of es ≡ places_of (is_entered kept.left) rs
  kept-places = ap values_of kept.entered ∙ entered-places (is_entered kept.left) rs

  -- a stream above all others is not in the map
  pub kept-absent : (id : ℕ) → last < id → lookup (nat_eq id) es ≡ None
  kept-absent id over =
      let keys : keys_of es ≡ ids_of (is_entered kept.left) rs = ap keys_of kept.entered ∙ entered-ids (is_entered kept.left) rs in
      absent-over id es (Rattle.std.proofs.Common.subst (AllByRecursion (λ (k : ℕ). k < id)) (sym keys) (ids-below (is_entered kept.left) 0 last id rs kept.rising over))

ready-fewer : (left : ℕ → Bool) (rs : List Stream) → length (ids_of is_ready rs) ≤ length (places_of (is_entered left) rs)
ready-fewer left [] = omega arith
ready-fewer left (x ∷ xs) = by (is_ready x) (is_entered left x) (λ e. rw (ready-lives x e) refl) (ready-fewer left xs)
  where
    by : (s t : Bool) → (s ≡ true → t ≡ true) → length (ids_of is_ready xs) ≤ length (places_of (is_entered left) xs)
        → length (cond s (x.id ∷ ids_of is_ready xs) (ids_of is_ready xs)) ≤ length (cond t (0 ∷ map suc (places_of (is_entered left) xs)) (map suc (places_of (is_entered left) xs)))
    by true true f h = let same = length-map (places_of (is_entered left) xs) suc in omega (arith, h, same)
    by true false f h = absurd (true≢false (sym (f refl)))
    by false true f h = let same = length-map (places_of (is_entered left) xs) suc in omega (arith, h, same)
    by false false f h = let same = length-map (places_of (is_entered left) xs) suc in omega (arith, h, same)

-- no more streams can send than are in the map
pub kept-fewer : (rs : List Stream) (es : List (ℕ × ℕ)) (ended : ℕ) (ready : List ℕ) (last : ℕ) → IsKept rs es ended ready last → length ready ≤ length es
kept-fewer rs es ended ready last kept =
    let fewer = ready-fewer kept.left rs in
    let entries = ap length kept.entered ∙ length-entered (is_entered kept.left) rs in
    let able = ap length kept.ready_listed in
    omega (arith, fewer, entries, able)

-- one more at most
pub one-more : (xs : List (ℕ × ℕ)) (t : Bool) (x : ℕ × ℕ) → length (xs ++ cond t (x ∷ []) []) ≡ length xs + as_count t
one-more [] true x = refl
one-more [] false x = refl
one-more (y ∷ ys) t x = let h = one-more ys t x in omega (arith, h)

-- a stream that was live and is not
pub ends-was : (a t : Bool) → (a && not t) ≡ true → (a ≡ true) × (t ≡ false)
ends-was true true h = absurd (true≢false (sym h))
ends-was true false h = (refl, refl)
ends-was false t h = absurd (true≢false (sym h))

pub count-small : (t : Bool) → as_count t ≤ 1
count-small true = omega arith
count-small false = omega arith

-- no stream above the last has ended
abbrev left_below : (ℕ → Bool) → ℕ → ℕ → Bool
left_below left last id = cond (nat_lt last id) false (left id)

same-below : (left : ℕ → Bool) (last low : ℕ) (xs : List Stream) → AreRising low last xs → entries_of (is_entered left) xs ≡ entries_of (is_entered (left_below left last)) xs
same-below left last low [] h = refl
same-below left last low (x ∷ xs) h =
    let le = h.2 in
    let under : nat_lt last x.id ≡ false = grind (arith, nat_tests, le) in
    let alike : is_entered left x ≡ is_entered (left_below left last) x = ap (λ b. is_live x.kind || cond b false (left x.id)) (sym under) in
    ap (λ b. cond b ((x.id, 0) ∷ map next_entry (entries_of (is_entered left) xs)) (map next_entry (entries_of (is_entered left) xs))) alike
    ∙ ap (λ ds. cond (is_entered (left_below left last) x) ((x.id, 0) ∷ map next_entry ds) (map next_entry ds)) (same-below left last x.id xs h.3)

-- nothing has
abbrev none_left : ℕ → Bool
none_left id = false

or-none : (b : Bool) → b ≡ (b || false)
or-none true = refl
or-none false = refl

live-there : (id : ℕ) (rs : List Stream) (st : Stream) → record_of rs id ≡ Some st → is_live st.kind ≡ true → 1 ≤ live_count rs
live-there id [] st f w = cc
live-there id (y ∷ ys) st f w = at (eqb y.id id) refl f (live-there id ys st) where
  at : (b : Bool) → eqb y.id id ≡ b → cond b (Some y) (record_of ys id) ≡ Some st → (record_of ys id ≡ Some st → is_live st.kind ≡ true → 1 ≤ live_count ys) → 1 ≤ live_count (y ∷ ys)
  at true e g rest =
      let same : y ≡ st = cc in
      let one : as_count (is_live st.kind) ≡ 1 = rw w refl in
      let here = ap (λ (z : Stream). as_count (is_live z.kind)) same in
      let count = count-cons y ys in
      omega (arith, here, one, count)
  at false e g rest = let tail = rest g w in let count = count-cons y ys in omega (arith, tail, count)

pub kept-added : (rs : List Stream) (es : List (ℕ × ℕ)) (ended : ℕ) (ready : List ℕ) (last : ℕ) (st : Stream) → IsKept rs es ended ready last → last < st.id → st.id % 2 ≡ 1 →
    IsKept (rs ++ st ∷ []) (es ++ cond (is_live st.kind) ((st.id, length rs) ∷ []) []) ended (ready ++ cond (is_ready st) (st.id ∷ []) []) st.id
kept-added rs es ended ready last st kept above odd = record {
  rising = rising-push 0 last rs st kept.rising (omega arith) above odd;
  left = left_below kept.left last;
  entered = ap (λ (xs : List (ℕ × ℕ)). xs ++ cond (is_live st.kind) ((st.id, length rs) ∷ []) []) (kept.entered ∙ entries-same-below) ∙ ap (λ b. entries_of (is_entered (left_below kept.left last)) rs ++ cond b ((st.id, length rs) ∷ []) []) own ∙ sym (entries-append (is_entered (left_below kept.left last)) rs st);
  counted = let longer = one-more es (is_live st.kind) (st.id, length rs) in let count = count-append rs st in let n = kept.counted in omega (arith, longer, count, n);
  few = let count = count-append rs st in let n = kept.few in omega (arith, count, n);
  ready_listed = ap (λ (ids : List ℕ). ids ++ cond (is_ready st) (st.id ∷ []) []) kept.ready_listed ∙ sym (ids_of-append is_ready rs (st ∷ []));
} where
  own : is_live st.kind ≡ is_entered (left_below kept.left last) st
  own =
      let over : nat_lt last st.id ≡ true = grind (arith, nat_tests, above) in
      or-none (is_live st.kind) ∙ ap (λ b. is_live st.kind || cond b false (kept.left st.id)) (sym over)

  entries-same-below : entries_of (is_entered kept.left) rs ≡ entries_of (is_entered (left_below kept.left last)) rs
  entries-same-below = same-below kept.left last 0 rs kept.rising

-- a record is written, and its stream is not live for the first time
module _ (rs : List Stream) (es : List (ℕ × ℕ)) (ended : ℕ) (ready : List ℕ) (last : ℕ) (st old : Stream) (kept : IsKept rs es ended ready last) (found : record_of rs st.id ≡ Some old) (same : old.id ≡ st.id)
    (can : can_become old.kind st.kind ≡ true) where
  abbrev after : ℕ → Bool
  after = left_after kept.left st.id (is_entered kept.left old)

  entered-after : es ≡ entries_of (is_entered after) (put st rs)
  entered-after = kept.entered ∙ sym (entered-put kept.left last rs st old kept.rising found can same)

  rising-after : AreRising 0 last (put st rs)
  rising-after = rising-put 0 last rs st old kept.rising found

  ready-after : listed (is_ready st) st.id ready ≡ ids_of is_ready (put st rs)
  ready-after = ap (listed (is_ready st) st.id) kept.ready_listed ∙ sym (ids_of-put is_ready 0 last rs st old kept.rising found)

  -- it was live and is, or was not
  pub kept-put : (is_live old.kind && not (is_live st.kind)) ≡ false → IsKept (put st rs) es ended (listed (is_ready st) st.id ready) last
  kept-put stays = record {
    rising = rising-after;
    left = after;
    entered = entered-after;
    counted = let count = count-put rs st old found in let n = kept.counted in omega (arith, count, n, alike (is_live old.kind) (is_live st.kind) (was-live (is_live old.kind) (is_closed old.kind) (is_live st.kind) can) stays);
    few = let count = count-put rs st old found in let n = kept.few in omega (arith, count, n, alike (is_live old.kind) (is_live st.kind) (was-live (is_live old.kind) (is_closed old.kind) (is_live st.kind) can) stays);
    ready_listed = ready-after;
  } where
    alike : (a t : Bool) → (t ≡ true → a ≡ true) → (a && not t) ≡ false → as_count a ≡ as_count t
    alike true true g h = refl
    alike true false g h = absurd (true≢false h)
    alike false true g h = absurd (true≢false (sym (g refl)))
    alike false false g h = refl

  -- it was in the map
  pub kept-there : is_live old.kind ≡ true → ended < length es
  kept-there was =
      let n = kept.counted in
      omega (arith, n, live-there st.id rs old found was)

  -- it was live and is not
  pub kept-ends : is_live old.kind ≡ true → is_live st.kind ≡ false → IsKept (put st rs) (entries_left (ended + 1) (put st rs) es) (ended_left (ended + 1) es) (listed (is_ready st) st.id ready) last
  kept-ends was now = by (are_dropped (ended + 1) es) refl where
    count : live_count (put st rs) + 1 ≡ live_count rs
    count =
        let was-one : as_count (is_live old.kind) ≡ 1 = rw was refl in
        let now-none : as_count (is_live st.kind) ≡ 0 = rw now refl in
        let change = count-put rs st old found in
        omega (arith, was-one, now-none, change)

    swept : filter (λ e. passes_at lives (put st rs) e.1) es ≡ entries_of lives (put st rs)
    swept = ap (filter (λ e. passes_at lives (put st rs) e.1)) entered-after ∙ filter-entries (is_entered after) lives (unentered after) (put st rs)

    by : (b : Bool) → are_dropped (ended + 1) es ≡ b
        → IsKept (put st rs) (cond b (filter (λ e. passes_at lives (put st rs) e.1) es) es) (cond b 0 (ended + 1)) (listed (is_ready st) st.id ready) last
    by true e = record {
      rising = rising-after;
      left = none_left;
      entered = swept ∙ entries-alike lives (is_entered none_left) 0 last (put st rs) rising-after (λ x l. or-none (is_live x.kind));
      counted = let all = ap length swept ∙ length-entered lives (put st rs) ∙ length-lives (put st rs) in omega (arith, all);
      few = omega arith;
      ready_listed = ready-after;
    }
    by false e = record {
      rising = rising-after;
      left = after;
      entered = entered-after;
      counted = let n = kept.counted in omega (arith, n, count);
      few = let n = kept.counted in let less : 2 * (ended + 1) ≤ length es + 32 = Rattle.std.proofs.Common.ltb-false (length es + 32) (2 * (ended + 1)) e in omega (arith, n, count, less);
      ready_listed = ready-after;
    }

  -- those that can send are no more than are in the map
  pub ready-within : length (listed (is_ready st) st.id ready) ≤ length es
  ready-within =
      let fewer = ready-fewer after (put st rs) in
      let entries = ap length entered-after ∙ length-entered (is_entered after) (put st rs) in
      let able = ap length ready-after in
      omega (arith, fewer, entries, able)

  -- the entries become no more
  pub left-fewer : length (entries_left (ended + 1) (put st rs) es) ≤ length es
  left-fewer = by (are_dropped (ended + 1) es) where
    fewer : (test : ℕ × ℕ → Bool) (xs : List (ℕ × ℕ)) → length (filter test xs) ≤ length xs
    fewer test [] = omega arith
    fewer test (x ∷ xs) = cases (test x) (fewer test xs) where
      cases : (b : Bool) → length (filter test xs) ≤ length xs → length (cond b (x ∷ filter test xs) (filter test xs)) ≤ suc (length xs)
      cases true h = omega (arith, h)
      cases false h = omega (arith, h)

    by : (b : Bool) → length (cond b (filter (λ e. passes_at lives (put st rs) e.1) es) es) ≤ length es
    by true = fewer (λ e. passes_at lives (put st rs) e.1) es
    by false = omega arith

-- a map of the live streams alone
pub kept-anew : (last : ℕ) (rs : List Stream) (es : List (ℕ × ℕ)) → AreRising 0 last rs → es ≡ entries_of lives rs → IsKept rs es 0 (ids_of is_ready rs) last
kept-anew last rs es rising live = record {
  rising = rising;
  left = none_left;
  entered = live ∙ entries-alike lives (is_entered none_left) 0 last rs rising (λ x l. or-none (is_live x.kind));
  counted = let all = ap length live ∙ length-entered lives rs ∙ length-lives rs in omega (arith, all);
  few = omega arith;
  ready_listed = refl;
}

-- ---- one more has ended

pub kept-entries : (ended : ℕ) (rs : List Stream) (es : List (ℕ × ℕ)) → 2 * ended ≤ length es + 32 → es ≡ entries_left ended rs es
kept-entries ended rs es few = let stays : are_dropped ended es ≡ false = grind (arith, nat_tests, few) in ap (λ b. cond b (filter (λ e. passes_at lives rs e.1) es) es) (sym stays)

pub kept-count : (ended : ℕ) (es : List (ℕ × ℕ)) → 2 * ended ≤ length es + 32 → ended ≡ ended_left ended es
kept-count ended es few = let stays : are_dropped ended es ≡ false = grind (arith, nat_tests, few) in ap (λ b. cond b 0 ended) (sym stays)

pub swept-entries : (ended : ℕ) (rs : List Stream) (es : List (ℕ × ℕ)) → length es + 32 < 2 * ended → filter (λ e. passes_at lives rs e.1) es ≡ entries_left ended rs es
swept-entries ended rs es many = let goes : are_dropped ended es ≡ true = grind (arith, nat_tests, many) in ap (λ b. cond b (filter (λ e. passes_at lives rs e.1) es) es) (sym goes)

pub swept-count : (ended : ℕ) (es : List (ℕ × ℕ)) → length es + 32 < 2 * ended → 0 ≡ ended_left ended es
swept-count ended es many = let goes : are_dropped ended es ≡ true = grind (arith, nat_tests, many) in ap (λ b. cond b 0 ended) (sym goes)

-- what holds of a success, where there is one
pub on_ok : {A E : Type 0} (r : Result A E) (P : Type 0) → IsOk r → OnOk r P → P
on_ok (Ok x) P is h = h
on_ok (Err e) P is h = absurd (true≢false (sym is))
