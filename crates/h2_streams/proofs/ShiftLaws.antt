-- Laws of the windows that settings move.
use Rattle.std.proofs.Common.{◌≡◌, ℕ, zero, suc, ◌<◌, ◌≤◌, ◌%◌, Bool, true, false, ◌&&◌, ◌||◌, not, cond, ℤ, pos, negsuc, ◌+ℤ◌, ◌≤ℤ◌, int_lt, eqb, nat_lt, List, [], ◌∷◌, length, map, Some, None, refl, ap, ◌∙◌, sym, arith, subst, true≢false, unwrap_or}
use Rattle.std.proofs.lemmas.Bool.Decides.{nat_tests}
use Rattle.std.proofs.lemmas.Int.{ints}
use Rattle.std.specs.List.{AllByRecursion, list_any}
use Rattle.std.specs.Prelude.{slice_index_or, slice_set}
use Rattle.std.specs.Map.{values_of}
use Rattle.std.specs.Option.{option_map}
use Rattle.h2_spec.specs.declared.streams.StreamState.{StreamState}
use Rattle.h2_spec.specs.declared.streams.StreamState.TheVariants.{Idle, Skipped, BothOpen, HalfRemote, HalfLocal, Ended, PeerReset, WeReset}
use Rattle.h2_spec.specs.declared.streams.Stream.{Stream}
use Rattle.h2_spec.specs.Change.{follows_initial_window, received, received_one, shifted, shifted_one, overflows, overflows_one, with_recv, with_send}
use Rattle.h2_spec.specs.Window.{max_window, is_above_max}
use Rattle.h2_spec.specs.Stream.{is_live, live_count, octets_waiting, put, record_of, AreRising}
use Rattle.h2_streams.specs.Kept.{entries_of, places_of, ids_of, ids_at, is_entered, is_ready, next_entry, passes_at, place_of, IsKept, Rise}
use Rattle.h2_streams.specs.Shift.{CanReceive, CanShift, is_window, moved, moved_or_same, moved_window, received_or_same, update, update_each}
use Rattle.h2_streams.proofs.IdsLaws.{idle-ready}
use Rattle.h2_streams.proofs.PlaceLaws.{eqb-same, none-below}
use Rattle.h2_streams.proofs.LiveLaws.{any-live, as_count, count-cons, each-live, entered-places, ids-live, kept-places, unentered}

-- a record that is written at its place is changed there
pub set-update : (f : Stream → Stream) (place : ℕ) (rs : List Stream) (d : Stream) → place < length rs → slice_set rs place (f (slice_index_or rs place d)) ≡ update f place rs
set-update f place [] d l = absurd (omega arith)
set-update f zero (x ∷ xs) d l = refl
set-update f (suc place) (x ∷ xs) d l = ap (λ ys. x ∷ ys) (set-update f place xs d (omega arith))

pub update-absent : (f : Stream → Stream) (place : ℕ) (rs : List Stream) → length rs ≤ place → update f place rs ≡ rs
update-absent f place [] le = refl
update-absent f zero (x ∷ xs) le = absurd (omega arith)
update-absent f (suc place) (x ∷ xs) le = ap (λ ys. x ∷ ys) (update-absent f place xs (omega arith))

-- the record with an identifier is changed at its place
pub update-put : (f : Stream → Stream) (id low : ℕ) (rs : List Stream) (st : Stream) → Rise low rs → record_of rs id ≡ Some st → (f st).id ≡ id → update f (place_of id rs) rs ≡ put (f st) rs
update-put f id low [] st h found same = cc
update-put f id low (x ∷ xs) st h found same =
    subst (λ (i : ℕ). update f (place_of id (x ∷ xs)) (x ∷ xs) ≡ cond (eqb x.id i) (f st ∷ xs) (x ∷ put (f st) xs)) (sym same)
    (by (nat_lt x.id id) (eqb x.id id) refl refl found (λ more. update-put f id x.id xs st h.1 more same))
  where
    by : (t b : Bool) → nat_lt x.id id ≡ t → eqb x.id id ≡ b → cond b (Some x) (record_of xs id) ≡ Some st → (record_of xs id ≡ Some st → update f (place_of id xs) xs ≡ put (f st) xs)
        → update f (cond t (suc (place_of id xs)) 0) (x ∷ xs) ≡ cond b (f st ∷ xs) (x ∷ put (f st) xs)
    by true true e d k more =
        let one = eqb-same x.id id d in
        let here : nat_lt x.id id ≡ false = grind (arith, nat_tests, one) in
        absurd (true≢false (sym e ∙ here))
    by true false e d k more = ap (λ ys. x ∷ ys) (more k)
    by false true e d k more = let is : x ≡ st = cc in ap (λ (y : Stream). f y ∷ xs) is
    by false false e d k more =
        let le : id ≤ x.id = grind (arith, nat_tests, e) in
        let none = none-below id x.id xs le h.1 in
        let g : None ≡ Some st = sym none ∙ k in cc

-- ---- streams that settings move

-- they leave those alone that are not live
pub follows-ended : (kind : StreamState) → is_live kind ≡ false → follows_initial_window kind ≡ false
follows-ended Idle h = refl
follows-ended Skipped h = refl
follows-ended BothOpen h = absurd (true≢false h)
follows-ended HalfRemote h = absurd (true≢false h)
follows-ended HalfLocal h = refl
follows-ended Ended h = refl
follows-ended PeerReset h = refl
follows-ended WeReset h = refl

moved-ended : (d : ℤ) (st : Stream) → is_live st.kind ≡ false → moved d st ≡ Some st
moved-ended d st h = rw (follows-ended st.kind h) refl

pub same-ended : (d : ℤ) (st : Stream) → is_live st.kind ≡ false → moved_or_same d st ≡ st
same-ended d st h = ap (λ o. unwrap_or o st) (moved-ended d st h)

not-under : (a b : ℤ) → a ≤ℤ b → int_lt b a ≡ false
not-under a b h = grind (arith, ints)

-- a stream as it moves keeps its identifier and its state
module _ (d : ℤ) (st : Stream) where
  part-moved : {B : Type 0} (part : Stream → B) → ((w : ℤ) → part (with_send st w) ≡ part st) → part (moved_or_same d st) ≡ part st
  part-moved part kept = by (follows_initial_window st.kind) (is_window (st.numbers.send +ℤ d)) where
    by : (f w : Bool) → part (unwrap_or (cond f (option_map (with_send st) (cond w (Some (st.numbers.send +ℤ d)) None)) (Some st)) st) ≡ part st
    by true true = kept (st.numbers.send +ℤ d)
    by true false = refl
    by false w = refl

  pub id-moved : (moved_or_same d st).id ≡ st.id
  id-moved = part-moved (λ s. s.id) (λ w. refl)

  pub kind-moved : (moved_or_same d st).kind ≡ st.kind
  kind-moved = part-moved (λ s. s.kind) (λ w. refl)

  -- one whose window does not overflow moves
  moved-free : CanShift d st → overflows_one d st ≡ false → moved_or_same d st ≡ shifted_one d st
  moved-free can = by (follows_initial_window st.kind) (is_above_max (st.numbers.send +ℤ d)) can where
    by : (f over : Bool) → (f ≡ true → negsuc max_window ≤ℤ (st.numbers.send +ℤ d)) → (f && over) ≡ false
        → unwrap_or (cond f (option_map (with_send st) (cond (not (int_lt (st.numbers.send +ℤ d) (negsuc max_window)) && not over) (Some (st.numbers.send +ℤ d)) None)) (Some st)) st
        ≡ cond f (with_send st (st.numbers.send +ℤ d)) st
    by true true least h = absurd (true≢false h)
    by true false least h = let within : int_lt (st.numbers.send +ℤ d) (negsuc max_window) ≡ false = not-under (negsuc max_window) (st.numbers.send +ℤ d) (least refl) in rw within refl
    by false over least h = refl

all-free : (d : ℤ) (rs : List Stream) → AllByRecursion (CanShift d) rs → overflows d rs ≡ false → map (moved_or_same d) rs ≡ shifted d rs
unfolding overflows shifted
all-free d [] can h = refl
all-free d (x ∷ xs) can h = by (overflows_one d x) refl h (all-free d xs can.1) where
  by : (b : Bool) → overflows_one d x ≡ b → cond b true (overflows d xs) ≡ false → (overflows d xs ≡ false → map (moved_or_same d) xs ≡ shifted d xs)
      → map (moved_or_same d) (x ∷ xs) ≡ shifted d (x ∷ xs)
  by true e k rest = absurd (true≢false k)
  by false e k rest = ap (λ y. y ∷ map (moved_or_same d) xs) (moved-free d x can.0 e) ∙ ap (λ ys. shifted_one d x ∷ ys) (rest k)

-- ---- the records after they move

rising-map : (f : Stream → Stream) → ((st : Stream) → (f st).id ≡ st.id) → (low last : ℕ) (rs : List Stream) → AreRising low last rs → AreRising low last (map f rs)
rising-map f keeps low last [] r = tt
rising-map f keeps low last (x ∷ xs) r =
    let tail = rising-map f keeps x.id last xs r.3 in
    subst (λ n. (low < n) × (n % 2 ≡ 1) × (n ≤ last) × AreRising n last (map f xs)) (sym (keeps x)) (r.0, r.1, r.2, tail)

entries-map : (test : Stream → Bool) (f : Stream → Stream) → ((st : Stream) → (f st).id ≡ st.id) → ((st : Stream) → test (f st) ≡ test st) → (rs : List Stream) → entries_of test (map f rs) ≡ entries_of test rs
entries-map test f ids tests [] = refl
entries-map test f ids tests (x ∷ xs) =
    ap (λ t. cond t (((f x).id, 0) ∷ map next_entry (entries_of test (map f xs))) (map next_entry (entries_of test (map f xs)))) (tests x)
    ∙ ap (λ id. cond (test x) ((id, 0) ∷ map next_entry (entries_of test (map f xs))) (map next_entry (entries_of test (map f xs)))) (ids x)
    ∙ ap (λ es. cond (test x) ((x.id, 0) ∷ map next_entry es) (map next_entry es)) (entries-map test f ids tests xs)

count-map : (f : Stream → Stream) → ((st : Stream) → (f st).kind ≡ st.kind) → (rs : List Stream) → live_count (map f rs) ≡ live_count rs
count-map f kinds [] = refl
count-map f kinds (x ∷ xs) =
    let now = count-cons (f x) (map f xs) in
    let was = count-cons x xs in
    let same = ap (λ k. as_count (is_live k)) (kinds x) in
    let rest = count-map f kinds xs in
    omega (arith, now, was, same, rest)

ids-map : (test : Stream → Bool) (f : Stream → Stream) → ((st : Stream) → (f st).id ≡ st.id) → ((st : Stream) → test (f st) ≡ test st) → (rs : List Stream) → ids_of test (map f rs) ≡ ids_of test rs
ids-map test f ids tests [] = refl
ids-map test f ids tests (x ∷ xs) =
    ap (λ t. cond t ((f x).id ∷ ids_of test (map f xs)) (ids_of test (map f xs))) (tests x)
    ∙ ap (λ id. cond (test x) (id ∷ ids_of test (map f xs)) (ids_of test (map f xs))) (ids x)
    ∙ ap (λ ys. cond (test x) (x.id ∷ ys) ys) (ids-map test f ids tests xs)

-- a function that keeps identifiers and states, and leaves streams alone that are not live, done to those in the map
module _ (f : Stream → Stream) (ids : (st : Stream) → (f st).id ≡ st.id) (kinds : (st : Stream) → (f st).kind ≡ st.kind) (idle : (st : Stream) → is_live st.kind ≡ false → f st ≡ st)
    (rs : List Stream) (es : List (ℕ × ℕ)) (ended : ℕ) (ready : List ℕ) (last : ℕ) (kept : IsKept rs es ended ready last) where
  each-mapped : update_each f (values_of es) rs ≡ map f rs
  each-mapped = ap (λ places. update_each f places rs) (kept-places rs es ended ready last kept) ∙ each-live (is_entered kept.left) f (λ st out. idle st (unentered kept.left st out)) rs

  entered-mapped : es ≡ entries_of (is_entered kept.left) (update_each f (values_of es) rs)
  entered-mapped =
      let tests : (st : Stream) → is_entered kept.left (f st) ≡ is_entered kept.left st = λ st i. is_live (kinds st i) || kept.left (ids st i) in
      kept.entered ∙ sym (entries-map (is_entered kept.left) f ids tests rs) ∙ ap (entries_of (is_entered kept.left)) (sym each-mapped)

  count-mapped : live_count (update_each f (values_of es) rs) ≡ live_count rs
  count-mapped = ap live_count each-mapped ∙ count-map f kinds rs

  kept-mapped : (now : List ℕ) → now ≡ ids_of is_ready (update_each f (values_of es) rs) → IsKept (update_each f (values_of es) rs) es ended now last
  kept-mapped now listed = record {
    rising = subst (AreRising 0 last) (sym each-mapped) (rising-map f ids 0 last rs kept.rising);
    left = kept.left;
    entered = entered-mapped;
    counted = let n = kept.counted in omega (arith, n, count-mapped);
    few = let n = kept.few in omega (arith, n, count-mapped);
    ready_listed = listed;
  }

-- ---- the send windows

module _ (d : ℤ) (rs : List Stream) (es : List (ℕ × ℕ)) (ended : ℕ) (ready : List ℕ) (last : ℕ) (kept : IsKept rs es ended ready last) where
  abbrev sending : Stream → Stream
  sending st = moved_or_same d st

  places-moved : values_of es ≡ places_of (is_entered kept.left) (update_each sending (values_of es) rs)
  places-moved = ap values_of (entered-mapped sending (id-moved d) (kind-moved d) (same-ended d) rs es ended ready last kept) ∙ entered-places (is_entered kept.left) (update_each sending (values_of es) rs)

  pub kept-moved : IsKept (update_each sending (values_of es) rs) es ended (ids_at is_ready (update_each sending (values_of es) rs) (values_of es)) last
  kept-moved =
      let now = update_each sending (values_of es) rs in
      kept-mapped sending (id-moved d) (kind-moved d) (same-ended d) rs es ended ready last kept (ids_at is_ready now (values_of es))
      (ap (ids_at is_ready now) places-moved ∙ ids-live (is_entered kept.left) is_ready (λ st out. idle-ready st (unentered kept.left st out)) now)

  pub records-moved : AllByRecursion (CanShift d) rs → overflows d rs ≡ false → update_each sending (values_of es) rs ≡ shifted d rs
  records-moved can free = each-mapped sending (id-moved d) (kind-moved d) (same-ended d) rs es ended ready last kept ∙ all-free d rs can free

-- ---- the receive windows

same-received : (d : ℤ) (st : Stream) → is_live st.kind ≡ false → received_or_same d st ≡ st
same-received d st h = rw h refl

not-over : (a b : ℤ) → a ≤ℤ b → int_lt b a ≡ false
not-over a b h = grind (arith, ints)

-- a stream as its receive window moves keeps all else
module _ (d : ℤ) (st : Stream) where
  part-received : {B : Type 0} (part : Stream → B) → ((w : ℤ) → part (with_recv st w) ≡ part st) → part (received_or_same d st) ≡ part st
  part-received part kept = by (is_live st.kind) (is_window (st.numbers.recv +ℤ d)) where
    by : (l w : Bool) → part (cond l (unwrap_or (option_map (with_recv st) (cond w (Some (st.numbers.recv +ℤ d)) None)) st) st) ≡ part st
    by true true = kept (st.numbers.recv +ℤ d)
    by true false = refl
    by false w = refl

  id-received : (received_or_same d st).id ≡ st.id
  id-received = part-received (λ s. s.id) (λ w. refl)

  kind-received : (received_or_same d st).kind ≡ st.kind
  kind-received = part-received (λ s. s.kind) (λ w. refl)

  ready-received : is_ready (received_or_same d st) ≡ is_ready st
  unfolding octets_waiting
  ready-received = part-received is_ready (λ w. refl)

  -- one that can receive moves
  received-within : CanReceive d st → received_or_same d st ≡ received_one d st
  received-within can = by (is_live st.kind) can where
    by : (l : Bool) → (l ≡ true → (negsuc max_window ≤ℤ (st.numbers.recv +ℤ d)) × ((st.numbers.recv +ℤ d) ≤ℤ pos max_window))
        → cond l (unwrap_or (option_map (with_recv st) (moved_window d st.numbers.recv)) st) st ≡ cond l (with_recv st (st.numbers.recv +ℤ d)) st
    by true h =
        let w = st.numbers.recv +ℤ d in
        let least : int_lt w (negsuc max_window) ≡ false = not-over (negsuc max_window) w (h refl).0 in
        let most : int_lt (pos max_window) w ≡ false = not-over w (pos max_window) (h refl).1 in
        rw (least, most) refl
    by false h = refl

all-received : (d : ℤ) (rs : List Stream) → AllByRecursion (CanReceive d) rs → map (received_or_same d) rs ≡ received d rs
unfolding received
all-received d [] can = refl
all-received d (x ∷ xs) can = ap (λ y. y ∷ map (received_or_same d) xs) (received-within d x can.0) ∙ ap (λ ys. received_one d x ∷ ys) (all-received d xs can.1)

module _ (d : ℤ) (rs : List Stream) (es : List (ℕ × ℕ)) (ended : ℕ) (ready : List ℕ) (last : ℕ) (kept : IsKept rs es ended ready last) where
  abbrev receiving : Stream → Stream
  receiving st = received_or_same d st

  each-received : update_each receiving (values_of es) rs ≡ map receiving rs
  each-received = each-mapped receiving (id-received d) (kind-received d) (same-received d) rs es ended ready last kept

  -- what can be sent stays
  pub kept-received : IsKept (update_each receiving (values_of es) rs) es ended ready last
  kept-received =
      kept-mapped receiving (id-received d) (kind-received d) (same-received d) rs es ended ready last kept ready
      (kept.ready_listed ∙ sym (ids-map is_ready receiving (id-received d) (ready-received d) rs) ∙ ap (ids_of is_ready) (sym each-received))

  pub records-received : AllByRecursion (CanReceive d) rs → update_each receiving (values_of es) rs ≡ received d rs
  records-received can = each-received ∙ all-received d rs can

-- ---- the greatest window

pub overflows-ended : (d : ℤ) (st : Stream) → is_live st.kind ≡ false → overflows_one d st ≡ false
overflows-ended d st h = rw (follows-ended st.kind h) refl

pub any-overflows : (d : ℤ) (rs : List Stream) → list_any (overflows_one d) rs ≡ overflows d rs
unfolding overflows
any-overflows d [] = refl
any-overflows d (x ∷ xs) = by (overflows_one d x) (any-overflows d xs) where
  by : (b : Bool) → list_any (overflows_one d) xs ≡ overflows d xs → (b || list_any (overflows_one d) xs) ≡ cond b true (overflows d xs)
  by true rest = refl
  by false rest = rest

-- whether a window would pass its limit is asked of the streams in the map
pub overflows-listed : (d : ℤ) (rs : List Stream) (es : List (ℕ × ℕ)) (ended : ℕ) (ready : List ℕ) (last : ℕ) → IsKept rs es ended ready last → list_any (passes_at (overflows_one d) rs) (values_of es) ≡ overflows d rs
overflows-listed d rs es ended ready last kept =
    ap (list_any (passes_at (overflows_one d) rs)) (kept-places rs es ended ready last kept)
    ∙ any-live (is_entered kept.left) (overflows_one d) (λ st out. overflows-ended d st (unentered kept.left st out)) rs ∙ any-overflows d rs
