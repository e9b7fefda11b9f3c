-- Laws of fields in batches.
use Rattle.std.proofs.Common.{◌≡◌, ℕ, zero, suc, ◌+◌, ◌-◌, ◌<◌, ◌≤◌, Bool, true, false, cond, nat_lt, List, [], ◌∷◌, ◌++◌, length, take, drop, get_or, refl, ap, ◌∙◌, sym, arith, length-append, append_assoc, take-add}
use Rattle.std.proofs.lemmas.Bool.Decides.{nat_tests}
use Rattle.std.proofs.lemmas.List.{append-nil, take-append-le, take_all}
use Rattle.std.specs.Prelude.{slice_get, slice_set, slice_index_or}
use Rattle.std.specs.List.{AllWithin}
use Rattle.std.specs.List.Sorted.{IsNonDecreasingBy}
use Rattle.h2_fields.specs.Batches.{FieldsFrom, AreBatches, before, fields_in}

-- ---- lists

pub get-left : {X : Type 0} (xs ys : List X) (i : ℕ) → i < length xs → slice_get (xs ++ ys) i ≡ slice_get xs i
get-left [] ys i h = absurd (omega arith)
get-left (x ∷ xs) ys zero h = refl
get-left (x ∷ xs) ys (suc i) h = get-left xs ys i (omega arith)

pub get-right : {X : Type 0} (xs ys : List X) (i : ℕ) → length xs ≤ i → slice_get (xs ++ ys) i ≡ slice_get ys (i - length xs)
get-right [] ys i h = let same : i ≡ i - 0 = omega arith in ap (slice_get ys) same
get-right (x ∷ xs) ys zero h = absurd (omega arith)
get-right (x ∷ xs) ys (suc i) h =
    let same : i - length xs ≡ suc i - suc (length xs) = omega arith in
    get-right xs ys i (omega arith) ∙ ap (slice_get ys) same

-- the first of two lists together
pub take-both : {X : Type 0} (n : ℕ) (xs ys : List X) → take n (xs ++ ys) ≡ take n xs ++ take (n - length xs) ys
take-both zero [] ys = refl
take-both (suc n) [] ys = let same : suc n ≡ suc n - 0 = omega arith in ap (λ k. take k ys) same
take-both zero (x ∷ xs) ys = let none : 0 - length (x ∷ xs) ≡ 0 = omega arith in rw none refl
take-both (suc n) (x ∷ xs) ys =
    let same : n - length xs ≡ suc n - suc (length xs) = omega arith in
    ap (λ l. x ∷ l) (take-both n xs ys) ∙ ap (λ k. x ∷ (take n xs ++ take k ys)) same

pub get-first : {X : Type 0} (n i : ℕ) (xs : List X) → i < n → slice_get (take n xs) i ≡ slice_get xs i
get-first zero i xs h = absurd (omega arith)
get-first (suc n) i [] h = refl
get-first (suc n) zero (x ∷ xs) h = refl
get-first (suc n) (suc i) (x ∷ xs) h = get-first n i xs (omega arith)

-- the last of the first elements
pub get_or-first : {X : Type 0} (xs : List X) (i : ℕ) (d : X) → get_or (take (suc i) xs) i d ≡ get_or xs i d
get_or-first [] i d = refl
get_or-first (x ∷ xs) zero d = refl
get_or-first (x ∷ xs) (suc i) d = get_or-first xs i d

-- some of the first elements, and then more of those after them
pub take-further : {X : Type 0} (n m : ℕ) (before xs more : List X) → more ≡ take m (drop n xs) → (before ++ take n xs) ++ more ≡ before ++ take (n + m) xs
take-further n m before xs more e = append_assoc before (take n xs) more ∙ ap (λ l. before ++ (take n xs ++ l)) e ∙ ap (λ l. before ++ l) (sym (take-add n m xs))

-- ---- where a search ends

start-over : (start : ℕ) (bs : List FieldsFrom) → AreBatches start bs → (j : ℕ) (d : FieldsFrom) → j < length bs → start ≤ (slice_index_or bs j d).start
start-over start [] h j d l = absurd (omega arith)
start-over start (b ∷ bs) h zero d l = omega (arith, h.0)
start-over start (b ∷ bs) h (suc j) d l = omega (arith, start-over (start + length b.fields) bs h.1 j d (omega arith))

-- the numbers at which batches begin do not fall
pub starts-ordered : (start : ℕ) (bs : List FieldsFrom) → AreBatches start bs → IsNonDecreasingBy (λ (b : FieldsFrom). b.start) bs
starts-ordered start [] h i j d le l = absurd (omega arith)
starts-ordered start (b ∷ bs) h zero zero d le l = omega arith
starts-ordered start (b ∷ bs) h zero (suc j) d le l = omega (arith, h.0, start-over (start + length b.fields) bs h.1 j d (omega arith))
starts-ordered start (b ∷ bs) h (suc i) zero d le l = absurd (omega arith)
starts-ordered start (b ∷ bs) h (suc i) (suc j) d le l = starts-ordered (start + length b.fields) bs h.1 i j d (omega arith) (omega arith)

-- the point of a search is the number of batches before
pub point-before : (bs : List FieldsFrom) (k bound : ℕ) → k ≤ length bs → AllWithin (λ (b : FieldsFrom). nat_lt b.start bound ≡ true) bs 0 k → AllWithin (λ (b : FieldsFrom). nat_lt b.start bound ≡ false) bs k (length bs) → k ≡ before bound bs
point-before [] k bound le below from = omega (arith, le)
point-before (b ∷ bs) zero bound le below from = let over : nat_lt b.start bound ≡ false = from 0 b (omega arith) (omega arith) in rw over refl
point-before (b ∷ bs) (suc k) bound le below from =
    let under : nat_lt b.start bound ≡ true = below 0 b (omega arith) (omega arith) in
    rw under (ap suc (point-before bs k bound (omega arith) (λ i d p q. below (suc i) d (omega arith) (omega arith)) (λ i d p q. from (suc i) d (omega arith) (omega arith))))

-- ---- the batch of a field

-- the last batch that begins before a number of fields
pub record LastBefore (bound start : ℕ) (bs : List FieldsFrom) : Type 0 where
  pub index : ℕ
  pub before_is : before bound bs ≡ suc index
  pub within : index < length bs
  pub begins : (b : FieldsFrom) → b ≡ get_or bs index b → (b.start < bound) × (start ≤ b.start)
  pub field : (b : FieldsFrom) → b ≡ get_or bs index b → (i : ℕ) → start ≤ i → i < bound → b.start ≤ i → bound ≡ suc i → slice_get b.fields (i - b.start) ≡ slice_get (fields_in bs) (i - start)
  pub cut : (b : FieldsFrom) → b ≡ get_or bs index b → (after : FieldsFrom) → after ≡ record b { fields = take (bound - b.start) b.fields } → AreBatches start (slice_set (take (suc index) bs) index after) × (fields_in (slice_set (take (suc index) bs) index after) ≡ take (bound - start) (fields_in bs))

none-before : (bound start : ℕ) (bs : List FieldsFrom) → AreBatches start bs → bound ≤ start → before bound bs ≡ zero
none-before bound start [] h le = refl
none-before bound start (b ∷ bs) h le =
    let e = h.0 in
    let over : nat_lt b.start bound ≡ false = grind (arith, nat_tests, e, le) in
    rw over refl

-- where some begin before a number, it is above the first one's
pub begun-before : (bound start : ℕ) (bs : List FieldsFrom) → AreBatches start bs → 0 < before bound bs → start < bound
begun-before bound start [] h some = absurd (omega (arith, some))
begun-before bound start (b ∷ bs) h some = at (nat_lt b.start bound) refl some
  where
    at : (t : Bool) → nat_lt b.start bound ≡ t → 0 < cond t (suc (before bound bs)) 0 → start < bound
    at true e s = let same = h.0 in grind (arith, nat_tests, e, same)
    at false e s = absurd (omega (arith, s))

-- and where none do, it is not
pub not-begun : (bound start : ℕ) (bs : List FieldsFrom) → AreBatches start bs → before bound bs ≡ 0 → bound ≤ start + length (fields_in bs) → bound ≤ start
not-begun bound start [] h none le = omega (arith, le)
not-begun bound start (b ∷ bs) h none le = at (nat_lt b.start bound) refl none
  where
    at : (t : Bool) → nat_lt b.start bound ≡ t → cond t (suc (before bound bs)) 0 ≡ 0 → bound ≤ start
    at true e n = absurd (omega (arith, n))
    at false e n = let same = h.0 in grind (arith, nat_tests, e, same)

-- the first batch is the last one before
first-before : (bound start : ℕ) (b : FieldsFrom) (bs : List FieldsFrom) → AreBatches start (b ∷ bs) → start < bound → bound ≤ start + length b.fields → LastBefore bound start (b ∷ bs)
first-before bound start b bs h s le =
    let e = h.0 in
    let under : nat_lt b.start bound ≡ true = grind (arith, nat_tests, e, s) in
    record {
      index = 0;
      before_is = rw (under, none-before bound (start + length b.fields) bs h.1 le) refl;
      within = omega arith;
      begins = λ x g. let same : x.start ≡ b.start = ap (λ (y : FieldsFrom). y.start) g in (omega (arith, same, e, s), omega (arith, same, e));
      field = λ x g i lo hi xs bi.
          let same : x ≡ b = g in
          let at : i - x.start ≡ i - start = omega (arith, ap (λ (y : FieldsFrom). y.start) same, e) in
          ap (λ (y : FieldsFrom). slice_get y.fields (i - x.start)) same ∙ ap (slice_get b.fields) at ∙ sym (get-left b.fields (fields_in bs) (i - start) (omega (arith, lo, hi, le)));
      cut = λ x g after a.
          let same : x ≡ b = g in
          let begins : after.start ≡ start = ap (λ (y : FieldsFrom). y.start) a ∙ ap (λ (y : FieldsFrom). y.start) same ∙ e in
          let count : bound - x.start ≡ bound - start = omega (arith, ap (λ (y : FieldsFrom). y.start) same, e) in
          let fields : after.fields ≡ take (bound - start) b.fields = ap (λ (y : FieldsFrom). y.fields) a ∙ ap (λ n. take n x.fields) count ∙ ap (λ (y : FieldsFrom). take (bound - start) y.fields) same in
          ((begins, tt), append-nil after.fields ∙ fields ∙ sym (take-append-le (bound - start) b.fields (fields_in bs) (omega (arith, le))));
    }

-- a later one is
later-before : (bound start : ℕ) (b : FieldsFrom) (bs : List FieldsFrom) → AreBatches start (b ∷ bs) → start < bound → start + length b.fields < bound → LastBefore bound (start + length b.fields) bs → LastBefore bound start (b ∷ bs)
later-before bound start b bs h s lt more =
    let e = h.0 in
    let under : nat_lt b.start bound ≡ true = grind (arith, nat_tests, e, s) in
    record {
      index = suc more.index;
      before_is = rw (under, more.before_is) refl;
      within = omega (arith, more.within);
      begins = λ x g. let m = more.begins x g in (m.0, omega (arith, m.1));
      field = λ x g i lo hi xs bi.
          let m = more.begins x g in
          let next : start + length b.fields ≤ i = omega (arith, lt, bi) in
          let at : i - start - length b.fields ≡ i - (start + length b.fields) = omega (arith, next) in
          more.field x g i next hi xs bi ∙ ap (slice_get (fields_in bs)) (sym at) ∙ sym (get-right b.fields (fields_in bs) (i - start) (omega (arith, next)));
      cut = λ x g after a.
          let m = more.cut x g after a in
          let rest : bound - start - length b.fields ≡ bound - (start + length b.fields) = omega (arith, lt) in (
            (e, m.0),
            ap (λ fs. b.fields ++ fs) (m.1 ∙ ap (λ n. take n (fields_in bs)) (sym rest))
                ∙ ap (λ fs. fs ++ take (bound - start - length b.fields) (fields_in bs)) (sym (take_all (bound - start) b.fields (omega (arith, lt))))
                ∙ sym (take-both (bound - start) b.fields (fields_in bs)),
          );
    }

pub last-before : (bound start : ℕ) (bs : List FieldsFrom) → AreBatches start bs → start < bound → bound ≤ start + length (fields_in bs) → LastBefore bound start bs
last-before bound start [] h s le = absurd (omega (arith, s, le))
last-before bound start (b ∷ bs) h s le = at (nat_lt (start + length b.fields) bound) refl (last-before bound (start + length b.fields) bs h.1)
  where
    at : (t : Bool) → nat_lt (start + length b.fields) bound ≡ t → (start + length b.fields < bound → bound ≤ start + length b.fields + length (fields_in bs) → LastBefore bound (start + length b.fields) bs) → LastBefore bound start (b ∷ bs)
    at true e more =
        let lt : start + length b.fields < bound = grind (arith, nat_tests, e) in
        later-before bound start b bs h s lt (more lt (omega (arith, le, length-append b.fields (fields_in bs))))
    at false e more = let over : bound ≤ start + length b.fields = grind (arith, nat_tests, e) in first-before bound start b bs h s over

-- ---- one batch more

pub push-batch : (start : ℕ) (bs : List FieldsFrom) (b : FieldsFrom) → AreBatches start bs → b.start ≡ start + length (fields_in bs) → AreBatches start (bs ++ b ∷ []) × (fields_in (bs ++ b ∷ []) ≡ fields_in bs ++ b.fields)
push-batch start [] b h e = ((omega (arith, e), tt), append-nil b.fields)
push-batch start (x ∷ bs) b h e =
    let more = push-batch (start + length x.fields) bs b h.1 (omega (arith, e, length-append x.fields (fields_in bs))) in
    ((h.0, more.0), ap (λ fs. x.fields ++ fs) more.1 ∙ sym (append_assoc x.fields (fields_in bs) b.fields))
