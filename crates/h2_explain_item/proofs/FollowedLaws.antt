-- What is evicted from a table, entry by entry, and what is at an index of both tables.
use Rattle.std.proofs.Common.{◌≡◌, ◌∙◌, ℕ, zero, suc, ◌+◌, ◌-◌, ◌<◌, ◌≤◌, List, [], ◌∷◌, ◌++◌, length, drop, get_or, nat_lt, take, Some, None, refl, sym, ap, arith, le-leb}
use Rattle.std.proofs.lemmas.Bool.{lt-leb}
use Rattle.std.proofs.lemmas.List.{drop_more, length-take-le, take_more}
use Rattle.std.proofs.lemmas.Option.{get_or_from_slice_get, slice_get_within}
use Rattle.std.specs.List.{slice_get}
use Rattle.h2_spec.specs.Hpack.DynamicTable.{entry_at, field_at, fit, total_size}
use Rattle.h2_spec.specs.Hpack.Field.{Field, size}
use Rattle.h2_spec.specs.Hpack.StaticTable.{static_field}
use Rattle.h2_spec.proofs.TableLaws.{fit-all, fit-evict, total_size-append}
use Rattle.h2_explain_item.specs.FollowedTable.{Following, evicted, field_followed, fields_followed}
use Rattle.h2_explain_item.specs.ShownBlock.{Spelled}

-- ---- one eviction

-- the oldest of too many entries goes
pub record OneEvicted (es : List Field) (place : ℕ) (x : Field) (available : ℕ) : Type 0 where
  pub some : 0 < place
  pub rest : drop (place - 1) es ≡ x ∷ drop place es
  pub counted : total_size (take place es) ≡ total_size (take (place - 1) es) + size x
  pub same : fit (take (place - 1) es) available ≡ fit (take place es) available

pub one-evicted : (es : List Field) (place : ℕ) (x : Field) (available : ℕ) → Some x ≡ entry_at place es → available < total_size (take place es) → OneEvicted es place x available
one-evicted es zero x available e over = absurd cc
one-evicted es (suc i) x available e over =
    let inside : i < length es = slice_get_within es i x (sym e) in
    let last : get_or es i x ≡ x = get_or_from_slice_get es i x x (sym e) in
    let one : i + 1 ≡ suc i = omega arith in
    let less : suc i - 1 ≡ i = omega arith in
    let split : take (suc i) es ≡ take i es ++ x ∷ [] = ap (λ n. take n es) (sym one) ∙ take_more es i x inside ∙ ap (λ y. take i es ++ y ∷ []) last in
    let sizes = ap total_size split ∙ total_size-append (take i es) (x ∷ []) in
    let over_too : available < total_size (take i es ++ x ∷ []) = omega (arith, over, ap total_size split) in
    record {
      some = omega arith;
      rest = ap (λ n. drop n es) less ∙ drop_more es i x inside ∙ ap (λ y. y ∷ drop (i + 1) es) last ∙ ap (λ n. x ∷ drop n es) one;
      counted = omega (arith, sizes, ap (λ n. total_size (take n es)) less);
      same = ap (λ n. fit (take n es) available) less ∙ sym (ap (λ xs. fit xs available) split ∙ fit-evict (take i es) x available over_too);
    }

-- once the others fit, all that are evicted are gone
pub evicted-is : (es : List Field) (place available : ℕ) → place ≤ length es → total_size (take place es) ≤ available → fit (take place es) available ≡ fit es available → drop place es ≡ evicted es available
evicted-is es place available inside within same =
    let kept : fit es available ≡ take place es = sym same ∙ fit-all (take place es) available within in
    let count : length (fit es available) ≡ place = ap length kept ∙ length-take-le place es inside in
    ap (λ n. drop n es) (sym count)

-- there is one at each place
pub none-within : {X : Type 0} (xs : List X) (i : ℕ) → None ≡ slice_get xs i → i < length xs → ⊥
none-within [] i e less = omega (arith, less)
none-within (x ∷ xs) zero e less = cc
none-within (x ∷ xs) (suc i) e less = none-within xs i e (omega (arith, less))

-- ---- one field

pub fields-step : (item listed : ℕ) (xs : List Spelled) (i : ℕ) (x : Spelled) (w : Following) → Some x ≡ slice_get xs i →
    fields_followed item listed i (drop i xs) w ≡ fields_followed item listed (i + 1) (drop (i + 1) xs) (field_followed item (nat_lt i listed) x w)
fields-step item listed xs i x w e =
    ap (λ ys. fields_followed item listed i ys w) (drop_more xs i x (slice_get_within xs i x (sym e)) ∙ ap (λ y. y ∷ drop (i + 1) xs) (get_or_from_slice_get xs i x x (sym e)))

-- ---- both tables

pub at-static : (i : ℕ) (entries : List Field) → i ≤ 61 → static_field i ≡ field_at i entries
unfolding field_at
at-static i entries h = rw (le-leb i 61 h) refl

pub at-dynamic : (i : ℕ) (entries : List Field) → 61 < i → entry_at (i - 61) entries ≡ field_at i entries
unfolding field_at
at-dynamic i entries h =
    let next : i - 61 ≡ suc (i - 62) = omega arith in
    rw (lt-leb i 61 h) (ap (λ (k : ℕ). entry_at k entries) next)
