-- What one eviction takes from the ring.
use Rattle.std.proofs.Common.{◌≡◌, ℕ, suc, ◌+◌, ◌-◌, ◌<◌, ◌≤◌, List, [], ◌∷◌, ◌++◌, length, take, Some, None, get_or, refl, ap, ◌∙◌, sym, arith}
use Rattle.std.proofs.lemmas.List.{take_more, take_all, length-take-le}
use Rattle.std.proofs.lemmas.Option.{slice_get_within, get_or_from_slice_get, slice_get-get_or}
use Rattle.circular_buffer.specs.Buffer.{last_item}
use Rattle.h2_spec.specs.Hpack.Field.{Field, size}
use Rattle.h2_spec.specs.Hpack.DynamicTable.{total_size, fit}
use Rattle.h2_spec.proofs.TableLaws.{fit-evict, total_size-append, total_size-length}
use Rattle.h2_table.specs.Held.{places_for}

last-split : {X : Type 0} (xs : List X) (x : X) → last_item xs ≡ Some x → xs ≡ take (length xs - 1) xs ++ x ∷ []
last-split xs x h =
    let i = length xs - 1 in
    let inside : i < length xs = slice_get_within xs i x h in
    let whole : length xs ≤ i + 1 = omega arith in
    sym (take_all (i + 1) xs whole) ∙ take_more xs i x inside ∙ ap (λ y. take i xs ++ y ∷ []) (get_or_from_slice_get xs i x x h)

-- a list with no last item has none
pub last-none : {X : Type 0} (xs : List X) → None ≡ last_item xs → xs ≡ []
last-none [] h = refl
last-none (x ∷ xs) h = let e : last_item (x ∷ xs) ≡ Some (get_or (x ∷ xs) (length (x ∷ xs) - 1) x) = slice_get-get_or (x ∷ xs) (length (x ∷ xs) - 1) x (omega arith) in cc

-- the oldest entry of too many: it counts what the others don't, and what fits is the same without it
pub record Evicts (xs rest : List Field) (x : Field) (available : ℕ) : Type 0 where
  pub counted : total_size xs ≡ total_size rest + size x
  pub same : fit rest available ≡ fit xs available

pub evicts-split : (xs rest : List Field) (x : Field) (available : ℕ) → xs ≡ rest ++ x ∷ [] → available < total_size xs → Evicts xs rest x available
evicts-split xs rest x available split over =
    let sizes = ap total_size split ∙ total_size-append rest (x ∷ []) in
    let over_too : available < total_size (rest ++ x ∷ []) = omega (arith, ap total_size split) in
    record {
      counted = omega (arith, sizes);
      same = sym (ap (λ es. fit es available) split ∙ fit-evict rest x available over_too);
    }

pub evicts : (xs : List Field) (x : Field) (available : ℕ) → Some x ≡ last_item xs → available < total_size xs → Evicts xs (take (length xs - 1) xs) x available
evicts xs x available h over = evicts-split xs (take (length xs - 1) xs) x available (last-split xs x (sym h)) over

-- where one more entry is within the limit, a place is free
pub has_place : (es : List Field) (limit : ℕ) → total_size es + 32 ≤ limit → length es < places_for limit
has_place es limit h = omega (arith, total_size-length es)

-- a ring that holds too much has an oldest entry
pub not_empty : (xs : List Field) (available : ℕ) → available < total_size xs → None ≡ last_item xs → ⊥
not_empty xs available over none = omega (arith, ap total_size (last-none xs none))

-- one fewer without the oldest
pub one_fewer : {X : Type 0} (xs : List X) (x : X) → Some x ≡ last_item xs → suc (length (take (length xs - 1) xs)) ≤ length xs
one_fewer xs x h =
    let inside : length xs - 1 < length xs = slice_get_within xs (length xs - 1) x (sym h) in
    omega (arith, inside, length-take-le (length xs - 1) xs (omega arith))
