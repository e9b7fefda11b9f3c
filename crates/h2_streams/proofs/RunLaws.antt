-- Runs of identifiers: where one more is put, and where they are cut.
use Rattle.std.proofs.Common.{◌≡◌, ℕ, zero, suc, ◌+◌, ◌*◌, ◌-◌, ◌<◌, ◌≤◌, Bool, true, false, cond, leb, nat_lt, take, List, [], ◌∷◌, ◌++◌, length, Some, None, Option, refl, ap, ◌∙◌, sym, subst, arith}
use Rattle.std.proofs.lemmas.Bool.Decides.{nat_tests}
use Rattle.std.specs.Prelude.{slice_get, slice_index_or, slice_set}
use Rattle.std.specs.List.{AllWithin}
use Rattle.std.specs.List.Sorted.{IsNonDecreasingBy}
use Rattle.h2_streams.specs.declared.brief.runs.IdRun.{IdRun}
use Rattle.h2_streams.specs.Brief.{AreEnds, end_of, id_at}

-- ---- places

-- the identifier at a place of a run
abbrev pub id_in : IdRun → ℕ → ℕ
id_in run place = run.last - 2 * (run.end - suc place)

pub end-over : (low : ℕ) (runs : List IdRun) → AreEnds low runs → low ≤ end_of low runs
end-over low [] h = omega arith
end-over low (r ∷ rs) h =
    let over = end-over r.end rs h.1 in
    let l = h.0 in
    omega (arith, over, l)

ends-later : (low : ℕ) (runs : List IdRun) → AreEnds low runs → (j : ℕ) (d : IdRun) → j < length runs → low < (slice_index_or runs j d).end
ends-later low [] h j d l = absurd (omega (arith, l))
ends-later low (r ∷ rs) h zero d l = h.0
ends-later low (r ∷ rs) h (suc j) d l =
    let later = ends-later r.end rs h.1 j d (omega (arith, l)) in
    let first = h.0 in
    omega (arith, later, first)

pub ends-ordered : (low : ℕ) (runs : List IdRun) → AreEnds low runs → IsNonDecreasingBy (λ (r : IdRun). r.end) runs
ends-ordered low [] h i j d le l = absurd (omega (arith, l))
ends-ordered low (r ∷ rs) h zero zero d le l = omega arith
ends-ordered low (r ∷ rs) h zero (suc j) d le l = let later = ends-later r.end rs h.1 j d (omega (arith, l)) in omega (arith, later)
ends-ordered low (r ∷ rs) h (suc i) zero d le l = absurd (omega (arith, le))
ends-ordered low (r ∷ rs) h (suc i) (suc j) d le l = ends-ordered r.end rs h.1 i j d (omega (arith, le)) (omega (arith, l))

-- the run in which a search ends has the place
pub point-some : (runs : List IdRun) (k place : ℕ) (run : IdRun) → AllWithin (λ (r : IdRun). leb r.end place ≡ true) runs 0 k → AllWithin (λ (r : IdRun). leb r.end place ≡ false) runs k (length runs)
    → slice_get runs k ≡ Some run → (place < run.end) × (id_at runs place ≡ id_in run place)
point-some [] k place run below from e = cc
point-some (r ∷ rs) zero place run below from e =
    let same : r ≡ run = cc in
    let over : leb r.end place ≡ false = from 0 r (omega arith) (omega arith) in
    let within : place < r.end = grind (arith, nat_tests, over) in
    let here : nat_lt place r.end ≡ true = grind (arith, nat_tests, within) in
    subst (λ (x : IdRun). (place < x.end) × (id_at (r ∷ rs) place ≡ id_in x place)) same (within, rw here refl)
point-some (r ∷ rs) (suc k) place run below from e =
    let under : leb r.end place ≡ true = below 0 r (omega arith) (omega arith) in
    let past : nat_lt place r.end ≡ false = grind (arith, nat_tests, under) in
    let rest = point-some rs k place run (λ i d a b. below (suc i) d (omega (arith, a)) (omega (arith, b))) (λ i d a b. from (suc i) d (omega (arith, a)) (omega (arith, b))) e in
    (rest.0, rw past rest.1)

-- and where it ends in none, no run has it
pub point-none : (runs : List IdRun) (k place : ℕ) → AllWithin (λ (r : IdRun). leb r.end place ≡ true) runs 0 k → slice_get runs k ≡ None → k ≤ length runs → id_at runs place ≡ 0
point-none [] k place below e le = refl
point-none (r ∷ rs) zero place below e le = cc
point-none (r ∷ rs) (suc k) place below e le =
    let under : leb r.end place ≡ true = below 0 r (omega arith) (omega arith) in
    let past : nat_lt place r.end ≡ false = grind (arith, nat_tests, under) in
    rw past (point-none rs k place (λ i d a b. below (suc i) d (omega (arith, a)) (omega (arith, b))) e (omega (arith, le)))

-- ---- runs after others

id-first : (low : ℕ) (xs ys : List IdRun) (place : ℕ) → AreEnds low xs → low ≤ place → place < end_of low xs → id_at (xs ++ ys) place ≡ id_at xs place
id-first low [] ys place h from to = absurd (omega (arith, from, to))
id-first low (r ∷ rs) ys place h from to = by (nat_lt place r.end) refl (id-first r.end rs ys place h.1)
  where
    by : (b : Bool) → nat_lt place r.end ≡ b → (r.end ≤ place → place < end_of r.end rs → id_at (rs ++ ys) place ≡ id_at rs place) → cond b (id_in r place) (id_at (rs ++ ys) place) ≡ cond b (id_in r place) (id_at rs place)
    by true e more = refl
    by false e more = more (grind (arith, nat_tests, e)) to

id-after : (low : ℕ) (xs ys : List IdRun) (place : ℕ) → AreEnds low xs → end_of low xs ≤ place → id_at (xs ++ ys) place ≡ id_at ys place
id-after low [] ys place h from = refl
id-after low (r ∷ rs) ys place h from =
    let over = end-over r.end rs h.1 in
    let past : nat_lt place r.end ≡ false = grind (arith, nat_tests, over, from) in
    rw past (id-after r.end rs ys place h.1 from)

ends-first : (low : ℕ) (xs ys : List IdRun) → AreEnds low (xs ++ ys) → AreEnds low xs
ends-first low [] ys h = tt
ends-first low (r ∷ rs) ys h = (h.0, ends-first r.end rs ys h.1)

ends-rest : (low : ℕ) (xs ys : List IdRun) → AreEnds low (xs ++ ys) → AreEnds (end_of low xs) ys
ends-rest low [] ys h = h
ends-rest low (r ∷ rs) ys h = ends-rest r.end rs ys h.1

ends-append : (low : ℕ) (xs ys : List IdRun) → AreEnds low xs → AreEnds (end_of low xs) ys → AreEnds low (xs ++ ys)
ends-append low [] ys h k = k
ends-append low (r ∷ rs) ys h k = (h.0, ends-append r.end rs ys h.1 k)

end-append : (low : ℕ) (xs ys : List IdRun) → end_of low (xs ++ ys) ≡ end_of (end_of low xs) ys
end-append low [] ys = refl
end-append low (r ∷ rs) ys = end-append r.end rs ys

-- ---- one more identifier

-- what a run has at its last place
last-in : (run : IdRun) → 0 < run.end → id_at (run ∷ []) (run.end - 1) ≡ run.last
last-in run some =
    let here : nat_lt (run.end - 1) run.end ≡ true = grind (arith, nat_tests, some) in
    rw here (omega (arith, some))

-- after the others, at the last place
pub record IsAppended (old new : List IdRun) (id end : ℕ) : Type 0 where
  pub before : (place : ℕ) → suc place < end → id_at new place ≡ id_at old place
  pub last : id_at new (end - 1) ≡ id
  pub ends : AreEnds 0 new
  pub end_is : end_of 0 new ≡ end

pub appended : (old : List IdRun) (run : IdRun) → AreEnds 0 old → suc (end_of 0 old) ≡ run.end → IsAppended old (old ++ run ∷ []) run.last run.end
appended old run h e = record {
  before = λ place l. id-first 0 old (run ∷ []) place h (omega arith) (omega (arith, l, e));
  last = id-after 0 old (run ∷ []) (run.end - 1) h (omega (arith, e)) ∙ last-in run (omega (arith, e));
  ends = ends-append 0 old (run ∷ []) h (omega (arith, e), tt);
  end_is = end-append 0 old (run ∷ []);
}

-- where the last run is longer by one
longer-in : (before run : IdRun) (place : ℕ) → before.last + 2 ≡ run.last → suc before.end ≡ run.end → place < before.end → id_at (run ∷ []) place ≡ id_at (before ∷ []) place
longer-in before run place follows e l =
    let old : nat_lt place before.end ≡ true = grind (arith, nat_tests, l) in
    let new : nat_lt place run.end ≡ true = grind (arith, nat_tests, l, e) in
    rw (old, new) (omega (arith, follows, e, l))

pub extended : (first : List IdRun) (before run : IdRun) → AreEnds 0 (first ++ before ∷ []) → suc (end_of 0 (first ++ before ∷ [])) ≡ run.end → before.last + 2 ≡ run.last
    → IsAppended (first ++ before ∷ []) (first ++ run ∷ []) run.last run.end
extended first before run h e follows = record {
  before = λ place l. by place l (nat_lt place (end_of 0 first)) refl;
  last = id-after 0 first (run ∷ []) (run.end - 1) ends (omega (arith, later, longer)) ∙ last-in run (omega (arith, longer));
  ends = ends-append 0 first (run ∷ []) ends (omega (arith, later, longer), tt);
  end_is = end-append 0 first (run ∷ []);
}
  where
    ends : AreEnds 0 first
    ends = ends-first 0 first (before ∷ []) h

    later : end_of 0 first < before.end
    later = (ends-rest 0 first (before ∷ []) h).0

    longer : suc before.end ≡ run.end
    longer = ap suc (sym (end-append 0 first (before ∷ []))) ∙ e

    by : (place : ℕ) → suc place < run.end → (b : Bool) → nat_lt place (end_of 0 first) ≡ b → id_at (first ++ run ∷ []) place ≡ id_at (first ++ before ∷ []) place
    by place l true t =
        let within : place < end_of 0 first = grind (arith, nat_tests, t) in
        id-first 0 first (run ∷ []) place ends (omega arith) within ∙ sym (id-first 0 first (before ∷ []) place ends (omega arith) within)
    by place l false t =
        let after : end_of 0 first ≤ place = grind (arith, nat_tests, t) in
        id-after 0 first (run ∷ []) place ends after ∙ longer-in before run place follows longer (omega (arith, l, longer)) ∙ sym (id-after 0 first (before ∷ []) place ends after)

-- ---- the first runs

-- up to a place, with the run that goes beyond it cut there
pub record IsCut (low : ℕ) (old new : List IdRun) (end : ℕ) : Type 0 where
  pub same : (place : ℕ) → low ≤ place → place < end → id_at new place ≡ id_at old place
  pub ends : AreEnds low new
  pub end_is : end_of low new ≡ end

-- with one more run before
further : (low : ℕ) (r : IdRun) (old new : List IdRun) (end : ℕ) → low < r.end → IsCut r.end old new end → IsCut low (r ∷ old) (r ∷ new) end
further low r old new end l rest = record { same = λ place le l. by place l (nat_lt place r.end) refl; ends = (l, rest.ends); end_is = rest.end_is }
  where
    by : (place : ℕ) → place < end → (b : Bool) → nat_lt place r.end ≡ b → cond b (id_in r place) (id_at new place) ≡ cond b (id_in r place) (id_at old place)
    by place l true t = refl
    by place l false t = rest.same place (grind (arith, nat_tests, t)) l

pub cut : (low : ℕ) (runs : List IdRun) (count : ℕ) (run : IdRun) → AreEnds low runs → low < run.end → run.end ≤ end_of low runs → run.last ≡ id_at runs (run.end - 1)
    → AllWithin (λ (r : IdRun). nat_lt r.end run.end ≡ true) runs 0 count → AllWithin (λ (r : IdRun). nat_lt r.end run.end ≡ false) runs count (length runs) → IsCut low runs (take count runs ++ run ∷ []) run.end
cut low [] count run h some within last below from = absurd (omega (arith, some, within))
cut low (r ∷ rs) zero run h some within last below from = record { same = same; ends = (some, tt); end_is = refl }
  where
    beyond : run.end ≤ r.end
    beyond = let over : nat_lt r.end run.end ≡ false = from 0 r (omega arith) (omega arith) in grind (arith, nat_tests, over)

    here : nat_lt (run.end - 1) r.end ≡ true
    here = let b = beyond in grind (arith, nat_tests, b, some)

    last_in : run.last ≡ id_in r (run.end - 1)
    last_in = let l : run.last ≡ cond (nat_lt (run.end - 1) r.end) (id_in r (run.end - 1)) (id_at rs (run.end - 1)) = last in rw here at l

    same : (place : ℕ) → low ≤ place → place < run.end → id_at (run ∷ []) place ≡ id_at (r ∷ rs) place
    same place le l =
        let b = beyond in
        let is = last_in in
        let new : nat_lt place run.end ≡ true = grind (arith, nat_tests, l) in
        let old : nat_lt place r.end ≡ true = grind (arith, nat_tests, l, b) in
        rw (new, old) (omega (arith, is, l, b))
cut low (r ∷ rs) (suc count) run h some within last below from =
    let b : nat_lt r.end run.end ≡ true = below 0 r (omega arith) (omega arith) in
    let under : r.end < run.end = grind (arith, nat_tests, b) in
    let past : nat_lt (run.end - 1) r.end ≡ false = grind (arith, nat_tests, under) in
    let l : run.last ≡ cond (nat_lt (run.end - 1) r.end) (id_in r (run.end - 1)) (id_at rs (run.end - 1)) = last in
    let last_in : run.last ≡ id_at rs (run.end - 1) = rw past at l in
    further low r rs (take count rs ++ run ∷ []) run.end h.0 (cut r.end rs count run h.1 under within last_in (λ i d a b. below (suc i) d (omega (arith, a)) (omega (arith, b))) (λ i d a b. from (suc i) d (omega (arith, a)) (omega (arith, b))))

-- ---- the last run of all

set-last : (runs : List IdRun) (k : ℕ) (before run : IdRun) → slice_get runs k ≡ Some before → suc k ≡ length runs → (runs ≡ take k runs ++ before ∷ []) × (slice_set runs k run ≡ take k runs ++ run ∷ [])
set-last [] k before run e l = cc
set-last (r ∷ []) zero before run e l = let same : r ≡ before = cc in (ap (λ (x : IdRun). x ∷ []) same, refl)
set-last (r ∷ s ∷ rs) zero before run e l = absurd (omega (arith, l))
set-last (r ∷ rs) (suc k) before run e l =
    let rest = set-last rs k before run e (omega (arith, l)) in
    (ap (λ (xs : List IdRun). r ∷ xs) rest.0, ap (λ (xs : List IdRun). r ∷ xs) rest.1)

pub get-within : (runs : List IdRun) (k : ℕ) (run : IdRun) → slice_get runs k ≡ Some run → k < length runs
get-within [] k run e = cc
get-within (r ∷ rs) zero run e = omega arith
get-within (r ∷ rs) (suc k) run e = let rest = get-within rs k run e in omega (arith, rest)

-- it is longer by one
pub extended-last : (runs : List IdRun) (before run : IdRun) → AreEnds 0 runs → suc (end_of 0 runs) ≡ run.end → slice_get runs (length runs - 1) ≡ Some before → before.last + 2 ≡ run.last → IsAppended runs (slice_set runs (length runs - 1) run) run.last run.end
extended-last runs before run h e last follows =
    let within = get-within runs (length runs - 1) before last in
    let is = set-last runs (length runs - 1) before run last (omega (arith, within)) in
    let first = take (length runs - 1) runs in
    let done = extended first before run (subst (AreEnds 0) is.0 h) (ap (λ (xs : List IdRun). suc (end_of 0 xs)) (sym is.0) ∙ e) follows in
    subst (λ (xs : List IdRun). IsAppended xs (slice_set runs (length runs - 1) run) run.last run.end) (sym is.0) (subst (λ (xs : List IdRun). IsAppended (first ++ before ∷ []) xs run.last run.end) (sym is.1) done)
