-- The tables of octets are the tests of the definitions, computed over the whole tables; and a test of names by their first octet and the others.
use Rattle.std.proofs.Common.{◌≡◌, ℕ, ◌<◌, ◌≤◌, Bool, true, false, ◌||◌, ◌&&◌, List, [], ◌∷◌, ◌-◌, length, take, drop, get_or, refl, ap, ◌∙◌, arith}
use Rattle.std.specs.Prelude.{◌==◌}
use Rattle.std.proofs.lemmas.Bool.Decides.{nat_tests}
use Rattle.std.proofs.lemmas.List.{take_all}
use Rattle.std.specs.List.{list_any}
use Rattle.h2_spec.specs.Requests.Request.{is_outside_names, is_outside_values, is_colon}
use Rattle.h2_spec.proofs.Computed.{alike, alike-is, all_from, all-at}
use Rattle.h2_hpack_validity.specs.Octets.{is_low, is_outside_rest}
use Rattle.h2_hpack_validity.specs.declared.classes.TheConstants.{OUTSIDE_REST, OUTSIDE_VALUES}

rest_right : all_from (λ c b. alike b (is_outside_rest c)) 0 OUTSIDE_REST ≡ true
rest_right = refl

pub rest-at : (c : ℕ) → c < 256 → get_or OUTSIDE_REST c false ≡ is_outside_rest c
rest-at c h = alike-is (get_or OUTSIDE_REST c false) (is_outside_rest c) (all-at (λ c b. alike b (is_outside_rest c)) OUTSIDE_REST c false rest_right h)

values_right : all_from (λ c b. alike b (is_outside_values c)) 0 OUTSIDE_VALUES ≡ true
values_right = refl

pub values-at : (c : ℕ) → c < 256 → get_or OUTSIDE_VALUES c false ≡ is_outside_values c
values-at c h = alike-is (get_or OUTSIDE_VALUES c false) (is_outside_values c) (all-at (λ c b. alike b (is_outside_values c)) OUTSIDE_VALUES c false values_right h)

swap : (a b c d : Bool) → ((a || b) || (c || d)) ≡ ((a || c) || (b || d))
swap true b c d = refl
swap false true true d = refl
swap false true false d = refl
swap false false c d = refl

pub rest-any : (cs : List ℕ) → list_any is_outside_rest cs ≡ (list_any is_outside_names cs || list_any is_colon cs)
rest-any [] = refl
rest-any (c ∷ cs) = ap (λ b. (is_outside_names c || is_colon c) || b) (rest-any cs) ∙ swap (is_outside_names c) (is_colon c) (list_any is_outside_names cs) (list_any is_colon cs)

not_empty : (n : ℕ) → 1 ≤ n → (n == 0) ≡ false
not_empty n h = grind (arith, nat_tests)

-- a name whose first octet can be there is bad for the others
pub name-rest : (name : List ℕ) (d : ℕ) → 1 ≤ length name → is_outside_names (get_or name 0 d) ≡ false →
    list_any is_outside_rest (take (length name - 1) (drop 1 name)) ≡ (length name == 0 || list_any is_outside_names name || list_any is_colon (drop 1 name))
name-rest [] d h e = absurd (omega arith)
name-rest (c ∷ cs) d h e = rw (not_empty (length (c ∷ cs)) h, e, take_all (length (c ∷ cs) - 1) cs (omega arith)) (rest-any cs)

and_false : (a : Bool) → (a && false) ≡ false
and_false true = refl
and_false false = refl

-- an octet that no value has is low
low : (c : ℕ) → (is_low c && is_outside_values c) ≡ is_outside_values c
low c = by (is_outside_values c) refl
  where
    by : (t : Bool) → is_outside_values c ≡ t → (is_low c && t) ≡ t
    by true e = let small : is_low c ≡ true = grind (arith, nat_tests) in rw small refl
    by false e = and_false (is_low c)

-- where none is low, no value has not one of them
pub low-any : (cs : List ℕ) → (list_any is_low cs && list_any is_outside_values cs) ≡ list_any is_outside_values cs
low-any [] = refl
low-any (c ∷ cs) = both (is_low c) (is_outside_values c) (list_any is_low cs) (list_any is_outside_values cs) (low c) (low-any cs)
  where
    both : (a b x y : Bool) → (a && b) ≡ b → (x && y) ≡ y → ((a || x) && (b || y)) ≡ (b || y)
    both true b x y h k = refl
    both false true x y h k = absurd cc
    both false false x y h k = k
