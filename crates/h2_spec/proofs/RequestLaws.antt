-- What the checks of requests and trailers answer is the least reason that holds.
use Rattle.std.proofs.Common.{◌≡◌, ◌≢◌, ◌⊎◌, inl, inr, ℕ, zero, suc, ◌<◌, ◌≤◌, Bool, true, false, not, ◌&&◌, ◌||◌, cond, List, [], ◌∷◌, Option, Some, None, codes, refl, sym, ◌∙◌, ap, subst, arith}
use Rattle.std.specs.Prelude.{slice_get, IsTrue, IsFalse, ◌==◌, is_none, is_some, unwrap_or, length}
use Rattle.std.specs.List.{list_any}
use Rattle.std.proofs.lemmas.Slice.Eq.{bytes_eq-Decides}
use Rattle.std.proofs.lemmas.Bool.Decides.{nat_tests, leb_tells}
use Rattle.std.proofs.Math.Nat.{eq-or-lt_of_le}
use Rattle.h2_spec.specs.Hpack.Field.{Field}
use Rattle.h2_spec.specs.Requests.Request.{is_pseudo, is_named, has_bad_name, has_bad_value, is_unknown_pseudo, is_of_connection, has_bad_te, is_content_length, is_digits, decimal_value, has_bad_length, is_other_length, is_late_pseudo, is_double_pseudo, value_named, is_connect, lacks_pseudo, any_two, malformed, malformed_trailers}
use Rattle.h2_spec.specs.Requests.Answer.{response_block}
use Rattle.h2_spec.specs.Requests.Reasons.{SomeField, SomeTwo, IsReason, IsTrailersReason, IsLeast, IsValueNamed, bad_name, bad_value, late_pseudo, unknown_pseudo, double_pseudo, no_method, connect_without_authority, connect_with_scheme, connect_with_path, no_scheme, no_path, empty_path, connection_field, bad_te, bad_length, two_lengths, bad_trailer_name, bad_trailer_value, trailer_pseudo, trailer_of_connection, bad_trailer_te}

-- ---- tests

or-true : (a b : Bool) → (a || b) ≡ true → (a ≡ true) ⊎ (b ≡ true)
or-true true b e = inl refl
or-true false b e = inr e

or-right : (a b : Bool) → b ≡ true → (a || b) ≡ true
or-right true b e = refl
or-right false b e = e

or-left : (a b : Bool) → a ≡ true → (a || b) ≡ true
or-left true b e = refl
or-left false b e = absurd cc

and-true : (a b : Bool) → (a && b) ≡ true → (a ≡ true) × (b ≡ true)
and-true true b e = (refl, e)
and-true false b e = absurd cc

both : (a b : Bool) → a ≡ true → b ≡ true → (a && b) ≡ true
both true b e f = f
both false b e f = absurd cc

not-true : (a : Bool) → not a ≡ true → a ≡ false
not-true true e = absurd cc
not-true false e = refl

-- ---- one field, and two

-- a field that passes the test is somewhere
pub some_field : (p : Field → Bool) (fields : List Field) → list_any p fields ≡ true → SomeField (λ f. IsTrue (p f)) fields
some_field p [] e = absurd cc
some_field p (f ∷ fs) e = elim (or-true (p f) (list_any p fs) e) [
  | inl here ↦ record { place = 0; field = f; found = refl; holds = here }
  | inr further ↦ let s = some_field p fs further in record { place = suc s.place; field = s.field; found = s.found; holds = s.holds }
]

any-at : (p : Field → Bool) (fields : List Field) (i : ℕ) (f : Field) → slice_get fields i ≡ Some f → p f ≡ true → list_any p fields ≡ true
any-at p [] i f at e = absurd cc
any-at p (x ∷ xs) zero f at e = let same : x ≡ f = cc in or-left (p x) _ (ap p same ∙ e)
any-at p (x ∷ xs) (suc i) f at e = or-right (p x) _ (any-at p xs i f at e)

pub any_field : (p : Field → Bool) (fields : List Field) → SomeField (λ f. IsTrue (p f)) fields → list_any p fields ≡ true
any_field p fields s = any-at p fields s.place s.field s.found s.holds

-- two fields that pass the test are somewhere in the list
pub some_two : (p : Field → Field → Bool) (fields : List Field) → any_two p fields ≡ true → SomeTwo (λ f g. IsTrue (p f g)) fields
some_two p [] e = absurd cc
some_two p (f ∷ fs) e = elim (or-true (list_any (p f) fs) (any_two p fs) e) [
  | inl here ↦
      let s = some_field (p f) fs here in
      record { earlier = 0; later = suc s.place; order = omega arith; former = f; latter = s.field; former_found = refl; latter_found = s.found; holds = s.holds }
  | inr further ↦
      let s = some_two p fs further in
      record { earlier = suc s.earlier; later = suc s.later; order = omega (arith, s.order); former = s.former; latter = s.latter; former_found = s.former_found; latter_found = s.latter_found; holds = s.holds }
]

two-at : (p : Field → Field → Bool) (fields : List Field) (i j : ℕ) (f g : Field) → i < j → slice_get fields i ≡ Some f → slice_get fields j ≡ Some g → p f g ≡ true → any_two p fields ≡ true
two-at p [] i j f g order at_i at_j e = absurd cc
two-at p (x ∷ xs) zero zero f g order at_i at_j e = absurd (omega arith)
two-at p (x ∷ xs) zero (suc j) f g order at_i at_j e =
    let same : x ≡ f = cc in
    or-left (list_any (p x) xs) _ (any-at (p x) xs j g at_j (ap (λ z. p z g) same ∙ e))
two-at p (x ∷ xs) (suc i) zero f g order at_i at_j e = absurd (omega arith)
two-at p (x ∷ xs) (suc i) (suc j) f g order at_i at_j e = or-right (list_any (p x) xs) _ (two-at p xs i j f g (omega arith) at_i at_j e)

pub any_two_fields : (p : Field → Field → Bool) (fields : List Field) → SomeTwo (λ f g. IsTrue (p f g)) fields → any_two p fields ≡ true
any_two_fields p fields s = two-at p fields s.earlier s.later s.former s.latter s.order s.former_found s.latter_found s.holds

-- a related pair of fields is so related, too
related : {R S : Field → Field → Type 0} (fields : List Field) → ((f g : Field) → R f g → S f g) → SomeTwo R fields → SomeTwo S fields
related fields h s = record { earlier = s.earlier; later = s.later; order = s.order; former = s.former; latter = s.latter; former_found = s.former_found; latter_found = s.latter_found; holds = h s.former s.latter s.holds }

so : {P Q : Field → Type 0} (fields : List Field) → ((f : Field) → P f → Q f) → SomeField P fields → SomeField Q fields
so fields h s = record { place = s.place; field = s.field; found = s.found; holds = h s.field s.holds }

-- ---- the least of the rows

-- the least reason from n on
abbrev IsLeastFrom : (ℕ → Type 0) → ℕ → Option ℕ → Type 0
IsLeastFrom R n None = (q : ℕ) → n ≤ q → ¬ (R q)
IsLeastFrom R n (Some r) = R r × ((q : ℕ) → n ≤ q → R q → r ≤ q)

-- a reason from n on is m or later, where none is between
reached : (R : ℕ → Type 0) (n m q : ℕ) → ((k : ℕ) → n ≤ k → k < m → ¬ (R k)) → n ≤ q → R q → m ≤ q
reached R n m q none above reason = elim (leb_tells m q) [
  | inl at ↦ at.1
  | inr before ↦ absurd (none q above before.1 reason)
]

-- and later, where m is none
passed : (R : ℕ → Type 0) (m q : ℕ) → ¬ (R m) → m ≤ q → R q → suc m ≤ q
passed R m q free above reason = elim (eq-or-lt_of_le above) [
  | inl same ↦ absurd (free (subst R (sym same) reason))
  | inr later ↦ later
]

false_is : false ≡ true → ⊥
false_is e = cc

-- a row more: its test decides whether its reason holds, and no reason is between
row : (R : ℕ → Type 0) (n m : ℕ) (t : Bool) (o : Option ℕ) → ((k : ℕ) → n ≤ k → k < m → ¬ (R k)) → (t ≡ true → R m) → (R m → t ≡ true) → IsLeastFrom R (suc m) o → IsLeastFrom R n (cond t (Some m) o)
row R n m true o none holds prints rest = (holds refl, λ q above reason. reached R n m q none above reason)
row R n m false None none holds prints rest = λ q above reason. rest q (passed R m q (λ r. false_is (prints r)) (reached R n m q none above reason) reason) reason
row R n m false (Some r) none holds prints rest =
    (rest.0, λ q above reason. rest.1 q (passed R m q (λ r. false_is (prints r)) (reached R n m q none above reason) reason) reason)

-- the next reason is the next number
row_next : (R : ℕ → Type 0) (n : ℕ) (t : Bool) (o : Option ℕ) → (t ≡ true → R n) → (R n → t ≡ true) → IsLeastFrom R (suc n) o → IsLeastFrom R n (cond t (Some n) o)
row_next R n t o holds prints rest = row R n n t o (λ k above below r. omega arith) holds prints rest

from_zero : (R : ℕ → Type 0) (o : Option ℕ) → IsLeastFrom R 0 o → IsLeast R o
from_zero R None h = λ q. h q (omega arith)
from_zero R (Some r) h = (h.0, λ q. h.1 q (omega arith))

-- ---- the tests of a request's rows find its reasons

not-equal : (a b : ℕ) → not (a == b) ≡ true → a ≢ b
not-equal a b e = grind (arith, nat_tests)

equal-not : (a b : ℕ) → a ≢ b → not (a == b) ≡ true
equal-not a b e = grind (arith, nat_tests)

late : (f g : Field) → IsFalse (is_pseudo f) × IsTrue (is_pseudo g) → IsTrue (is_late_pseudo f g)
late f g h = both (not (is_pseudo f)) (is_pseudo g) (ap not h.0) h.1

late_says : (f g : Field) → IsTrue (is_late_pseudo f g) → IsFalse (is_pseudo f) × IsTrue (is_pseudo g)
late_says f g e = let h = and-true (not (is_pseudo f)) (is_pseudo g) e in (not-true (is_pseudo f) h.0, h.1)

double : (f g : Field) → IsTrue (is_pseudo f) × (g.name ≡ f.name) → IsTrue (is_double_pseudo f g)
double f g h = both (is_pseudo f) (is_named f.name g) h.0 ((bytes_eq-Decides g.name f.name).1 h.1)

double_says : (f g : Field) → IsTrue (is_double_pseudo f g) → IsTrue (is_pseudo f) × (g.name ≡ f.name)
double_says f g e = let h = and-true (is_pseudo f) (is_named f.name g) e in (h.0, (bytes_eq-Decides g.name f.name).0 h.1)

ill_spelled : (f : Field) → IsTrue (is_content_length f) × IsFalse (is_digits f.value) → IsTrue (has_bad_length f)
ill_spelled f h = both (is_content_length f) (not (is_digits f.value)) h.0 (ap not h.1)

ill_spelled_says : (f : Field) → IsTrue (has_bad_length f) → IsTrue (is_content_length f) × IsFalse (is_digits f.value)
ill_spelled_says f e = let h = and-true (is_content_length f) (not (is_digits f.value)) e in (h.0, not-true (is_digits f.value) h.1)

other : (f g : Field) → IsTrue (is_content_length f) × IsTrue (is_content_length g) × (decimal_value g.value ≢ decimal_value f.value) → IsTrue (is_other_length f g)
other f g h =
    both (is_content_length f && is_content_length g) _ (both (is_content_length f) _ h.0 h.1) (equal-not (decimal_value g.value) (decimal_value f.value) h.2)

other_says : (f g : Field) → IsTrue (is_other_length f g) → IsTrue (is_content_length f) × IsTrue (is_content_length g) × (decimal_value g.value ≢ decimal_value f.value)
other_says f g e =
    let first = and-true (is_content_length f && is_content_length g) _ e in
    let two = and-true (is_content_length f) (is_content_length g) first.0 in
    (two.0, two.1, not-equal (decimal_value g.value) (decimal_value f.value) first.1)

tested_1 : (fields : List Field) → IsReason fields 1 → list_any has_bad_name fields ≡ true
tested_1 fields (bad_name s) = any_field has_bad_name fields s

tested_2 : (fields : List Field) → IsReason fields 2 → list_any has_bad_value fields ≡ true
tested_2 fields (bad_value s) = any_field has_bad_value fields s

tested_3 : (fields : List Field) → IsReason fields 3 → any_two is_late_pseudo fields ≡ true
tested_3 fields (late_pseudo s) = any_two_fields is_late_pseudo fields (related fields late s)

tested_4 : (fields : List Field) → IsReason fields 4 → list_any is_unknown_pseudo fields ≡ true
tested_4 fields (unknown_pseudo s) = any_field is_unknown_pseudo fields s

tested_5 : (fields : List Field) → IsReason fields 5 → any_two is_double_pseudo fields ≡ true
tested_5 fields (double_pseudo s) = any_two_fields is_double_pseudo fields (related fields double s)

tested_6 : (fields : List Field) → IsReason fields 6 → lacks_pseudo fields ≡ true
tested_6 fields (no_method e) = rw e
tested_6 fields (connect_without_authority c e) = or-right (is_none (value_named (codes ":method") fields)) _ (rw (c, e))
tested_6 fields (connect_with_scheme c e) = or-right (is_none (value_named (codes ":method") fields)) _ (rw c (or-left _ _ (or-right (is_none (value_named (codes ":authority") fields)) _ e)))
tested_6 fields (connect_with_path c e) = or-right (is_none (value_named (codes ":method") fields)) _ (rw c (or-right (lacks_or_has (value_named (codes ":authority") fields) (value_named (codes ":scheme") fields)) _ e))
  where
    lacks_or_has : Option (List ℕ) → Option (List ℕ) → Bool
    lacks_or_has a s = is_none a || is_some s
tested_6 fields (no_scheme c e) = or-right (is_none (value_named (codes ":method") fields)) _ (rw (c, e))
tested_6 fields (no_path c e) = or-right (is_none (value_named (codes ":method") fields)) _ (rw (c, e) (or-right (is_none (value_named (codes ":scheme") fields)) _ refl))
tested_6 fields (empty_path c e) = or-right (is_none (value_named (codes ":method") fields)) _ (rw (c, e) (or-right (is_none (value_named (codes ":scheme") fields)) _ refl))

tested_7 : (fields : List Field) → IsReason fields 7 → list_any is_of_connection fields ≡ true
tested_7 fields (connection_field s) = any_field is_of_connection fields s

tested_8 : (fields : List Field) → IsReason fields 8 → list_any has_bad_te fields ≡ true
tested_8 fields (bad_te s) = any_field has_bad_te fields s

tested_9 : (fields : List Field) → IsReason fields 9 → (list_any has_bad_length fields || any_two is_other_length fields) ≡ true
tested_9 fields (bad_length s) = or-left _ _ (any_field has_bad_length fields (so fields ill_spelled s))
tested_9 fields (two_lengths s) = or-right (list_any has_bad_length fields) _ (any_two_fields is_other_length fields (related fields other s))

-- ---- and its reasons hold where their tests do

not-zero : (n : ℕ) → (suc n == 0) ≡ true → ⊥
not-zero n e = let same : suc n ≡ 0 = grind (arith, nat_tests) in omega arith

holds_6 : (fields : List Field) (m s p a : Option (List ℕ)) → value_named (codes ":method") fields ≡ m → value_named (codes ":scheme") fields ≡ s → value_named (codes ":path") fields ≡ p → value_named (codes ":authority") fields ≡ a → (c : Bool) → is_connect fields ≡ c
    → (is_none m || cond c (is_none a || is_some s || is_some p) (is_none s || (length (unwrap_or p []) == 0))) ≡ true → IsReason fields 6
holds_6 fields None s p a em es ep ea c ec h = no_method em
holds_6 fields (Some m) s p None em es ep ea true ec h = connect_without_authority ec ea
holds_6 fields (Some m) (Some s) p (Some a) em es ep ea true ec h = connect_with_scheme ec (ap is_some es)
holds_6 fields (Some m) None (Some p) (Some a) em es ep ea true ec h = connect_with_path ec (ap is_some ep)
holds_6 fields (Some m) None None (Some a) em es ep ea true ec h = absurd cc
holds_6 fields (Some m) None p a em es ep ea false ec h = no_scheme ec es
holds_6 fields (Some m) (Some s) None a em es ep ea false ec h = no_path ec ep
holds_6 fields (Some m) (Some s) (Some []) a em es ep ea false ec h = empty_path ec ep
holds_6 fields (Some m) (Some s) (Some (x ∷ xs)) a em es ep ea false ec h = absurd (not-zero (length xs) h)

holds_9 : (fields : List Field) → (list_any has_bad_length fields || any_two is_other_length fields) ≡ true → IsReason fields 9
holds_9 fields e = elim (or-true (list_any has_bad_length fields) (any_two is_other_length fields) e) [
  | inl ill ↦ bad_length (so fields ill_spelled_says (some_field has_bad_length fields ill))
  | inr two ↦ two_lengths (related fields other_says (some_two is_other_length fields two))
]

numbered : (fields : List Field) (q : ℕ) → IsReason fields q → (1 ≤ q) × (q ≤ 9)
numbered fields _ (bad_name s) = (omega arith, omega arith)
numbered fields _ reason = (omega arith, omega arith)

-- the answer to a request is its least reason
pub least_of_request : (fields : List Field) → IsLeast (IsReason fields) (malformed fields)
unfolding malformed
least_of_request fields = from_zero R _ (row R 0 1 _ _ (λ k above below reason. absurd (omega (arith, numbered fields k reason))) (λ e. bad_name (some_field has_bad_name fields e)) (tested_1 fields)
    (row_next R 2 _ _ (λ e. bad_value (some_field has_bad_value fields e)) (tested_2 fields)
    (row_next R 3 _ _ (λ e. late_pseudo (related fields late_says (some_two is_late_pseudo fields e))) (tested_3 fields)
    (row_next R 4 _ _ (λ e. unknown_pseudo (some_field is_unknown_pseudo fields e)) (tested_4 fields)
    (row_next R 5 _ _ (λ e. double_pseudo (related fields double_says (some_two is_double_pseudo fields e))) (tested_5 fields)
    (row_next R 6 _ _ (holds_6 fields _ _ _ _ refl refl refl refl _ refl) (tested_6 fields)
    (row_next R 7 _ _ (λ e. connection_field (some_field is_of_connection fields e)) (tested_7 fields)
    (row_next R 8 _ _ (λ e. bad_te (some_field has_bad_te fields e)) (tested_8 fields)
    (row_next R 9 _ _ (holds_9 fields) (tested_9 fields) (λ q above reason. omega (arith, numbered fields q reason)))))))))))
  where
    R : ℕ → Type 0
    R q = IsReason fields q

-- ---- trailers

numbered_trailers : (fields : List Field) (q : ℕ) → IsTrailersReason fields q → (1 ≤ q) × (q ≤ 8) × (q ≢ 3) × (q ≢ 5) × (q ≢ 6)
numbered_trailers fields _ (bad_trailer_name s) = (omega arith, omega arith, omega arith, omega arith, omega arith)
numbered_trailers fields _ reason = (omega arith, omega arith, omega arith, omega arith, omega arith)

trailers_1 : (fields : List Field) → IsTrailersReason fields 1 → list_any has_bad_name fields ≡ true
trailers_1 fields (bad_trailer_name s) = any_field has_bad_name fields s

trailers_2 : (fields : List Field) → IsTrailersReason fields 2 → list_any has_bad_value fields ≡ true
trailers_2 fields (bad_trailer_value s) = any_field has_bad_value fields s

trailers_4 : (fields : List Field) → IsTrailersReason fields 4 → list_any is_pseudo fields ≡ true
trailers_4 fields (trailer_pseudo s) = any_field is_pseudo fields s

trailers_7 : (fields : List Field) → IsTrailersReason fields 7 → list_any is_of_connection fields ≡ true
trailers_7 fields (trailer_of_connection s) = any_field is_of_connection fields s

trailers_8 : (fields : List Field) → IsTrailersReason fields 8 → list_any has_bad_te fields ≡ true
trailers_8 fields (bad_trailer_te s) = any_field has_bad_te fields s

-- the answer to trailers is their least reason
pub least_of_trailers : (fields : List Field) → IsLeast (IsTrailersReason fields) (malformed_trailers fields)
unfolding malformed_trailers
least_of_trailers fields = from_zero R _ (row R 0 1 _ _ (none 0 1 (λ k above below n. omega arith)) (λ e. bad_trailer_name (some_field has_bad_name fields e)) (trailers_1 fields)
    (row_next R 2 _ _ (λ e. bad_trailer_value (some_field has_bad_value fields e)) (trailers_2 fields)
    (row R 3 4 _ _ (none 3 4 (λ k above below n. omega arith)) (λ e. trailer_pseudo (some_field is_pseudo fields e)) (trailers_4 fields)
    (row R 5 7 _ _ (none 5 7 (λ k above below n. omega arith)) (λ e. trailer_of_connection (some_field is_of_connection fields e)) (trailers_7 fields)
    (row_next R 8 _ _ (λ e. bad_trailer_te (some_field has_bad_te fields e)) (trailers_8 fields) (λ q above reason. omega (arith, numbered_trailers fields q reason)))))))
  where
    R : ℕ → Type 0
    R q = IsTrailersReason fields q

    none : (n m : ℕ) → ((k : ℕ) → n ≤ k → k < m → (1 ≤ k) × (k ≤ 8) × (k ≢ 3) × (k ≢ 5) × (k ≢ 6) → ⊥) → (k : ℕ) → n ≤ k → k < m → ¬ (R k)
    none n m h k above below reason = h k above below (numbered_trailers fields k reason)

-- ---- values by name

-- a field that isn't so named, before the others
behind : (name : List ℕ) (f : Field) (fs : List Field) (o : Option (List ℕ)) → f.name ≢ name → IsValueNamed name fs o → IsValueNamed name (f ∷ fs) o
behind name f fs None unlike h = none
  where
    none : (i : ℕ) (g : Field) → slice_get (f ∷ fs) i ≡ Some g → g.name ≢ name
    none zero g at = let same : f ≡ g = cc in subst (λ (x : Field). x.name ≢ name) same unlike
    none (suc i) g at = h i g at
behind name f fs (Some value) unlike h = record { place = suc h.place; field = h.field; found = h.found; named = h.named; has = h.has; first = first }
  where
    first : (i : ℕ) (g : Field) → i < suc h.place → slice_get (f ∷ fs) i ≡ Some g → g.name ≢ name
    first zero g below at = let same : f ≡ g = cc in subst (λ (x : Field). x.name ≢ name) same unlike
    first (suc i) g below at = h.first i g (omega arith) at

pub value_named-is : (name : List ℕ) (fields : List Field) → IsValueNamed name fields (value_named name fields)
value_named-is name [] = λ i f at. absurd cc
value_named-is name (f ∷ fs) = by (is_named name f) refl (value_named-is name fs)
  where
    by : (t : Bool) → is_named name f ≡ t → IsValueNamed name fs (value_named name fs) → IsValueNamed name (f ∷ fs) (cond t (Some f.value) (value_named name fs))
    by true e h = record { place = 0; field = f; found = refl; named = (bytes_eq-Decides f.name name).0 e; has = refl; first = λ i g below at. absurd (omega arith) }
    by false e h = behind name f fs (value_named name fs) (λ same. false_is (sym e ∙ (bytes_eq-Decides f.name name).1 same)) h

-- ---- responses

-- a size update precedes the same block
pub response_block-signal : (status : ℕ) (fields : List Field) → response_block true status fields ≡ 0x20 ∷ response_block false status fields
unfolding response_block
response_block-signal status fields = refl
