-- Records in brief: those at their places, one that is written, and more after them.
use Rattle.std.proofs.Common.{◌≡◌, ℕ, zero, suc, ◌+◌, ◌<◌, ◌≤◌, Bool, true, false, cond, eqb, nat_lt, map, take, List, [], ◌∷◌, ◌++◌, length, Some, None, Option, refl, ap, ◌∙◌, sym, subst, arith, true≢false}
use Rattle.std.proofs.lemmas.Bool.Decides.{nat_tests}
use Rattle.std.specs.Prelude.{slice_get, slice_set}
use Rattle.std.specs.Option.{is_some, option_map}
use Rattle.h2_spec.specs.declared.streams.Stream.{Stream}
use Rattle.h2_spec.specs.declared.streams.StreamState.{StreamState}
use Rattle.h2_spec.specs.Stream.{not_live, put, record_of}
use Rattle.h2_streams.specs.declared.brief.runs.IdRun.{IdRun}
use Rattle.h2_streams.specs.Brief.{AreBrief, brief, briefs_from, id_at}
use Rattle.h2_streams.specs.Kept.{Rise, passes_at, place_of}
use Rattle.h2_streams.proofs.PlaceLaws.{checked, eqb-same, place-found, put-at, record-at}

-- ---- at their places

pub briefs-get : (place : ℕ) (runs : List IdRun) (kinds : List StreamState) (i : ℕ) → slice_get (briefs_from place runs kinds) i ≡ option_map (λ (k : StreamState). not_live (id_at runs (place + i)) k) (slice_get kinds i)
briefs-get place runs [] i = refl
briefs-get place runs (k ∷ ks) zero = let same : place ≡ place + 0 = omega arith in ap (λ n. Some (not_live (id_at runs n) k)) same
briefs-get place runs (k ∷ ks) (suc i) =
    let same : suc place + i ≡ place + suc i = omega arith in
    briefs-get (suc place) runs ks i ∙ ap (λ n. option_map (λ (k : StreamState). not_live (id_at runs n) k) (slice_get ks i)) same

-- from the first place on
briefs-at : (runs : List IdRun) (kinds : List StreamState) (i : ℕ) → slice_get (briefs_from 0 runs kinds) i ≡ option_map (λ (k : StreamState). not_live (id_at runs i) k) (slice_get kinds i)
briefs-at runs kinds i = let same : 0 + i ≡ i = omega arith in briefs-get 0 runs kinds i ∙ ap (λ n. option_map (λ (k : StreamState). not_live (id_at runs n) k) (slice_get kinds i)) same

pub at-none : (runs : List IdRun) (kinds : List StreamState) (i : ℕ) → slice_get kinds i ≡ None → slice_get (briefs_from 0 runs kinds) i ≡ None
at-none runs kinds i e = briefs-at runs kinds i ∙ ap (option_map (λ (k : StreamState). not_live (id_at runs i) k)) e

pub at-some : (runs : List IdRun) (kinds : List StreamState) (i : ℕ) (kind : StreamState) → slice_get kinds i ≡ Some kind → slice_get (briefs_from 0 runs kinds) i ≡ Some (not_live (id_at runs i) kind)
at-some runs kinds i kind e = briefs-at runs kinds i ∙ ap (option_map (λ (k : StreamState). not_live (id_at runs i) k)) e

pub briefs-length : (place : ℕ) (runs : List IdRun) (kinds : List StreamState) → length (briefs_from place runs kinds) ≡ length kinds
briefs-length place runs [] = refl
briefs-length place runs (k ∷ ks) = ap suc (briefs-length (suc place) runs ks)

pub briefs-take : (place n : ℕ) (runs : List IdRun) (kinds : List StreamState) → briefs_from place runs (take n kinds) ≡ take n (briefs_from place runs kinds)
briefs-take place zero runs kinds = refl
briefs-take place (suc n) runs [] = refl
briefs-take place (suc n) runs (k ∷ ks) = ap (λ (rs : List Stream). not_live (id_at runs place) k ∷ rs) (briefs-take (suc place) n runs ks)

briefs-append : (place : ℕ) (runs : List IdRun) (xs ys : List StreamState) → briefs_from place runs (xs ++ ys) ≡ briefs_from place runs xs ++ briefs_from (place + length xs) runs ys
briefs-append place runs [] ys = let same : place ≡ place + 0 = omega arith in ap (λ n. briefs_from n runs ys) same
briefs-append place runs (x ∷ xs) ys =
    let same : suc place + length xs ≡ place + suc (length xs) = omega arith in
    ap (λ (rs : List Stream). not_live (id_at runs place) x ∷ rs) (briefs-append (suc place) runs xs ys ∙ ap (λ n. briefs_from (suc place) runs xs ++ briefs_from n runs ys) same)

-- the identifiers at these places alone matter
pub briefs-same : (place : ℕ) (runs others : List IdRun) (kinds : List StreamState) → ((p : ℕ) → place ≤ p → p < place + length kinds → id_at runs p ≡ id_at others p) → briefs_from place runs kinds ≡ briefs_from place others kinds
briefs-same place runs others [] h = refl
briefs-same place runs others (k ∷ ks) h =
    let first : id_at runs place ≡ id_at others place = h place (omega arith) (omega arith) in
    let rest = briefs-same (suc place) runs others ks (λ p a b. h p (omega (arith, a)) (omega (arith, b))) in
    rw (first, rest) refl

-- a record goes after the others
pub briefs-push : (runs more : List IdRun) (kinds : List StreamState) (id : ℕ) (kind : StreamState) → ((p : ℕ) → p < length kinds → id_at more p ≡ id_at runs p) → id_at more (length kinds) ≡ id
    → briefs_from 0 more (kinds ++ kind ∷ []) ≡ briefs_from 0 runs kinds ++ not_live id kind ∷ []
briefs-push runs more kinds id kind before last =
    let zero : 0 + length kinds ≡ length kinds = omega arith in
    briefs-append 0 more kinds (kind ∷ []) ∙ ap (λ n. briefs_from 0 more kinds ++ not_live (id_at more n) kind ∷ []) zero
    ∙ ap (λ (rs : List Stream). rs ++ not_live (id_at more (length kinds)) kind ∷ []) (briefs-same 0 more runs kinds (λ p a b. before p (omega (arith, b)))) ∙ ap (λ i. briefs_from 0 runs kinds ++ not_live i kind ∷ []) last

briefs-set : (place : ℕ) (runs : List IdRun) (kinds : List StreamState) (i : ℕ) (kind : StreamState) → briefs_from place runs (slice_set kinds i kind) ≡ slice_set (briefs_from place runs kinds) i (not_live (id_at runs (place + i)) kind)
briefs-set place runs [] i kind = refl
briefs-set place runs (k ∷ ks) zero kind = let same : place ≡ place + 0 = omega arith in ap (λ n. not_live (id_at runs n) kind ∷ briefs_from (suc place) runs ks) same
briefs-set place runs (k ∷ ks) (suc i) kind =
    let same : suc place + i ≡ place + suc i = omega arith in
    ap (λ (rs : List Stream). not_live (id_at runs place) k ∷ rs) (briefs-set (suc place) runs ks i kind ∙ ap (λ n. slice_set (briefs_from (suc place) runs ks) i (not_live (id_at runs n) kind)) same)

-- ---- records in brief are brief

pub brief-all : (rs : List Stream) → AreBrief (map brief rs)
brief-all [] = tt
brief-all (x ∷ xs) = ((λ e. refl), brief-all xs)

pub briefs-brief : (place : ℕ) (runs : List IdRun) (kinds : List StreamState) → map brief (briefs_from place runs kinds) ≡ briefs_from place runs kinds
briefs-brief place runs [] = refl
briefs-brief place runs (k ∷ ks) = ap (λ (rs : List Stream). not_live (id_at runs place) k ∷ rs) (briefs-brief (suc place) runs ks)

-- ---- a search

pub place-over : (id low : ℕ) (rs : List Stream) (i : ℕ) (st : Stream) → Rise low rs → slice_get rs i ≡ Some st → st.id < id → i < place_of id rs
place-over id low [] i st r e l = cc
place-over id low (x ∷ xs) zero st r e l =
    let same : x ≡ st = cc in
    let under : nat_lt x.id id ≡ true = subst (λ (y : Stream). nat_lt y.id id ≡ true) (sym same) (grind (arith, nat_tests, l)) in
    rw under (omega arith)
place-over id low (x ∷ xs) (suc i) st r e l =
    let rest = place-over id x.id xs i st r.1 e l in
    let above = rise-get x.id xs i st r.1 e in
    let under : nat_lt x.id id ≡ true = grind (arith, nat_tests, above, l) in
    rw under (omega (arith, rest))
  where
    rise-get : (low : ℕ) (rs : List Stream) (i : ℕ) (st : Stream) → Rise low rs → slice_get rs i ≡ Some st → low < st.id
    rise-get low [] i st r e = cc
    rise-get low (x ∷ xs) zero st r e = let same : x ≡ st = cc in subst (λ (y : Stream). low < y.id) same r.0
    rise-get low (x ∷ xs) (suc i) st r e = let rest = rise-get x.id xs i st r.1 e in let l = r.0 in omega (arith, rest, l)

pub place-under : (id : ℕ) (rs : List Stream) (i : ℕ) (st : Stream) → slice_get rs i ≡ Some st → id ≤ st.id → place_of id rs ≤ i
place-under id [] i st e le = omega arith
place-under id (x ∷ xs) zero st e le =
    let same : x ≡ st = cc in
    let over : nat_lt x.id id ≡ false = subst (λ (y : Stream). nat_lt y.id id ≡ false) (sym same) (grind (arith, nat_tests, le)) in
    rw over (omega arith)
place-under id (x ∷ xs) (suc i) st e le = by (nat_lt x.id id) (place-under id xs i st e le)
  where
    by : (b : Bool) → place_of id xs ≤ i → cond b (suc (place_of id xs)) 0 ≤ suc i
    by true h = omega (arith, h)
    by false h = omega arith

pub place-most : (id : ℕ) (rs : List Stream) → place_of id rs ≤ length rs
place-most id [] = omega arith
place-most id (x ∷ xs) = by (nat_lt x.id id) (place-most id xs)
  where
    by : (b : Bool) → place_of id xs ≤ length xs → cond b (suc (place_of id xs)) 0 ≤ suc (length xs)
    by true h = omega (arith, h)
    by false h = omega arith

-- ---- a record is written

found-at : (id : ℕ) (o : Option Stream) (p : Option Stream) → checked id o ≡ p → is_some p ≡ true → (st : Stream) × (o ≡ Some st) × (st.id ≡ id)
found-at id None p e k = absurd (true≢false (sym (ap is_some e ∙ k)))
found-at id (Some st) p e k = (st, refl, by (eqb st.id id) refl e)
  where
    by : (b : Bool) → eqb st.id id ≡ b → cond b (Some st) None ≡ p → st.id ≡ id
    by true t e = eqb-same st.id id t
    by false t e = absurd (true≢false (sym (ap is_some e ∙ k)))

pub briefs-put : (runs : List IdRun) (kinds : List StreamState) (st : Stream) → Rise 0 (briefs_from 0 runs kinds) → is_some (record_of (briefs_from 0 runs kinds) st.id) ≡ true
    → briefs_from 0 runs (slice_set kinds (place_of st.id (briefs_from 0 runs kinds)) st.kind) ≡ put (brief st) (briefs_from 0 runs kinds)
briefs-put runs kinds st r known =
    let all = briefs_from 0 runs kinds in
    let place = place_of st.id all in
    let found = found-at st.id (slice_get all place) (record_of all st.id) (record-at st.id 0 all r) known in
    let id : id_at runs place ≡ st.id = by (slice_get kinds place) (sym (briefs-at runs kinds place) ∙ found.1) ∙ found.2 in
    let zero : 0 + place ≡ place = omega arith in
    briefs-set 0 runs kinds place st.kind ∙ ap (λ n. slice_set all place (not_live (id_at runs n) st.kind)) zero ∙ ap (λ i. slice_set all place (not_live i st.kind)) id ∙ put-at (brief st) 0 all r known
  where
    by : {st : Stream} {id : ℕ} (o : Option StreamState) → option_map (λ (k : StreamState). not_live id k) o ≡ Some st → id ≡ st.id
    by None e = cc
    by {st} {id} (Some k) e = let same : not_live id k ≡ st = cc in ap (λ (x : Stream). x.id) same

-- ---- a record at each place

briefs-some : (runs : List IdRun) (kinds : List StreamState) (i : ℕ) → i < length kinds → (k : StreamState) × (slice_get (briefs_from 0 runs kinds) i ≡ Some (not_live (id_at runs i) k))
briefs-some runs kinds i l = let kind = there kinds i l in (kind.0, at-some runs kinds i kind.0 kind.1)
  where
    there : (kinds : List StreamState) (i : ℕ) → i < length kinds → (k : StreamState) × (slice_get kinds i ≡ Some k)
    there [] i l = absurd (omega (arith, l))
    there (k ∷ ks) zero l = (k, refl)
    there (k ∷ ks) (suc i) l = there ks i (omega (arith, l))

-- where the identifier is below, at or above one
pub below-place : (id i : ℕ) (runs : List IdRun) (kinds : List StreamState) → Rise 0 (briefs_from 0 runs kinds) → i < length kinds → id_at runs i < id → i < place_of id (briefs_from 0 runs kinds)
below-place id i runs kinds r l under = let at = briefs-some runs kinds i l in place-over id 0 (briefs_from 0 runs kinds) i (not_live (id_at runs i) at.0) r at.1 under

pub above-place : (id i : ℕ) (runs : List IdRun) (kinds : List StreamState) → i < length kinds → id ≤ id_at runs i → place_of id (briefs_from 0 runs kinds) ≤ i
above-place id i runs kinds l over = let at = briefs-some runs kinds i l in place-under id (briefs_from 0 runs kinds) i (not_live (id_at runs i) at.0) at.1 over

pub at-place : (id i : ℕ) (runs : List IdRun) (kinds : List StreamState) → Rise 0 (briefs_from 0 runs kinds) → i < length kinds → id_at runs i ≡ id → i ≡ place_of id (briefs_from 0 runs kinds)
at-place id i runs kinds r l same =
    let at = briefs-some runs kinds i l in
    let all = briefs_from 0 runs kinds in
    let passes : passes_at (λ (st : Stream). eqb st.id id) all i ≡ true = rw at.1 (let s = same in grind (arith, nat_tests, s)) in
    (place-found id 0 all i r passes).1

-- ---- the first of some

pub take-next : {X : Type 0} (n : ℕ) (xs : List X) (x : X) → slice_get xs n ≡ Some x → take (suc n) xs ≡ take n xs ++ x ∷ []
take-next n [] x e = cc
take-next zero (y ∷ ys) x e = let same : y ≡ x = cc in ap (λ z. z ∷ []) same
take-next (suc n) (y ∷ ys) x e = ap (λ zs. y ∷ zs) (take-next n ys x e)

pub get-first : {X : Type 0} (n : ℕ) (xs : List X) (i : ℕ) → i < n → slice_get (take n xs) i ≡ slice_get xs i
get-first zero xs i l = absurd (omega (arith, l))
get-first (suc n) [] i l = refl
get-first (suc n) (x ∷ xs) zero l = refl
get-first (suc n) (x ∷ xs) (suc i) l = get-first n xs i (omega (arith, l))

pub get-past : {X : Type 0} (n : ℕ) (xs : List X) (i : ℕ) → n ≤ i → slice_get (take n xs) i ≡ None
get-past zero xs i l = refl
get-past (suc n) [] i l = refl
get-past (suc n) (x ∷ xs) zero l = absurd (omega (arith, l))
get-past (suc n) (x ∷ xs) (suc i) l = get-past n xs i (omega (arith, l))
