-- What an edited table evicts, and what a commit moves.
use Rattle.std.proofs.Common.{◌≡◌, ℕ, zero, suc, ◌+◌, ◌-◌, ◌<◌, ◌≤◌, List, [], ◌∷◌, ◌++◌, length, length-append, get_or, take, Some, None, refl, ap, ◌∙◌, sym, arith}
use Rattle.std.proofs.lemmas.List.{get_or_append_left, take_more, take_all, append_assoc, length-take}
use Rattle.std.proofs.lemmas.Option.{slice_get-get_or, slice_get_within, slice_get_past, get_or_from_slice_get}
use Rattle.circular_buffer.proofs.Places.{slice_get-append_right, slice_get-take}
use Rattle.h2_spec.specs.Hpack.Field.{Field, size}
use Rattle.h2_spec.specs.Hpack.DynamicTable.{Table, total_size, fit, entry_at, insert, resize}
use Rattle.h2_spec.proofs.TableLaws.{fit-cons, fit-none, fit-zero, fit-evict, total_size-append, total_size-length}
use Rattle.h2_table.specs.Held.{places_for}

-- the last of the entries that are still there
take-last : (es : List Field) (last : ℕ) (x : Field) → Some x ≡ entry_at last es → take last es ≡ take (last - 1) es ++ x ∷ []
take-last es zero x h = absurd cc
take-last es (suc n) x h =
    let at = sym h in
    let inside : n < length es = slice_get_within es n x at in
    let next : n + 1 ≡ suc n = omega arith in
    let less : suc n - 1 ≡ n = omega arith in
    rw less (ap (λ k. take k es) (sym next) ∙ take_more es n x inside ∙ ap (λ y. take n es ++ y ∷ []) (get_or_from_slice_get es n x x at))

-- it counts what the others don't, and what fits is the same without it
pub record Leaves (added es : List Field) (last : ℕ) (x : Field) (available : ℕ) : Type 0 where
  pub counted : total_size (added ++ take last es) ≡ total_size (added ++ take (last - 1) es) + size x
  pub same : fit (added ++ take (last - 1) es) available ≡ fit (added ++ take last es) available

pub leaves : (added es : List Field) (last : ℕ) (x : Field) (available : ℕ) → Some x ≡ entry_at last es → available < total_size (added ++ take last es) → Leaves added es last x available
leaves added es last x available h over =
    let rest = added ++ take (last - 1) es in
    let split : added ++ take last es ≡ rest ++ x ∷ [] = ap (λ r. added ++ r) (take-last es last x h) ∙ sym (append_assoc added (take (last - 1) es) (x ∷ [])) in
    let sizes = ap total_size split ∙ total_size-append rest (x ∷ []) in
    let over_too : available < total_size (rest ++ x ∷ []) = omega (arith, ap total_size split) in
    record {
      counted = omega (arith, sizes);
      same = sym (ap (λ r. fit r available) split ∙ fit-evict rest x available over_too);
    }

-- an entry that is not there
pub no_entry : (es : List Field) (last : ℕ) → 0 < last → last ≤ length es → None ≡ entry_at last es → ⊥
no_entry es zero h l e = omega arith
no_entry [] (suc n) h l e = omega arith
no_entry (x ∷ es) (suc zero) h l e = cc
no_entry (x ∷ es) (suc (suc n)) h l e = no_entry es (suc n) (omega arith) (omega arith) e

-- an entry among those that were added
pub entry-added : (i : ℕ) (added rest : List Field) (x : Field) → 0 < i → i ≤ length added → x ≡ get_or added (i - 1) x → Some x ≡ entry_at i (added ++ rest)
entry-added zero added rest x h l e = absurd (omega arith)
entry-added (suc n) added rest x h l e =
    let at : suc n - 1 ≡ n = omega arith in
    let sum = length-append added rest in
    sym (slice_get-get_or (added ++ rest) n x (omega (arith, sum)) ∙ ap Some (get_or_append_left added rest x n (omega arith) ∙ ap (λ k. get_or added k x) (sym at) ∙ sym e))

-- an entry of the table's own
pub entry-own : (i count kept : ℕ) (added own : List Field) → count ≡ length added → count < i → i - count ≤ kept → entry_at (i - count) own ≡ entry_at i (added ++ take kept own)
entry-own i count kept added own e h l =
    let n = i - count - 1 in
    let here : i - count ≡ suc n = omega arith in
    let there : i ≡ suc (length added + n) = omega (arith, e) in
    ap (λ k. entry_at k own) here ∙ sym (slice_get-take kept own n (omega arith)) ∙ sym (slice_get-append_right added (take kept own) (length added + n) n refl) ∙ ap (λ k. entry_at k (added ++ take kept own)) (sym there)

-- none is past the oldest
pub entry-past : (i count kept : ℕ) (added own : List Field) → count ≡ length added → kept < i - count → None ≡ entry_at i (added ++ take kept own)
entry-past zero count kept added own e h = refl
entry-past (suc n) count kept added own e h =
    let all = length-append added (take kept own) in
    let some = length-take kept own in
    sym (slice_get_past (added ++ take kept own) n (omega (arith, e, all, some)))

-- an edit that begins has the table's own entries, and nothing else
pub begun : (added own : List Field) (n : ℕ) → added ≡ [] → n ≡ length own → added ++ take n own ≡ own
begun added own n none all = ap (λ a. a ++ take n own) none ∙ take_all n own (omega (arith, all))

-- the oldest of what was added goes to the front of the others
pub moved : (added rest ring : List Field) (x : Field) → added ≡ rest ++ x ∷ [] → rest ++ x ∷ ring ≡ added ++ ring
moved added rest ring x split = sym (append_assoc rest (x ∷ []) ring) ∙ ap (λ a. a ++ ring) (sym split)

-- ---- the edited table

abbrev pub table : List Field → ℕ → Table
table entries max = record { entries = entries; max = max }

pub resized-table : (entries now : List Field) (max n : ℕ) → now ≡ fit entries n → table now n ≡ resize (table entries max) n
unfolding resize
resized-table entries now max n e = ap (λ es. table es n) e

inserted-table : (entries now : List Field) (max : ℕ) (f : Field) → now ≡ fit (f ∷ entries) max → table now max ≡ insert (table entries max) f
unfolding insert
inserted-table entries now max f e = ap (λ es. table es max) e

-- a field that counts too much empties the table
pub emptied-table : (entries now : List Field) (max : ℕ) (f : Field) → now ≡ fit entries 0 → max < size f → table now max ≡ insert (table entries max) f
emptied-table entries now max f e over = inserted-table entries now max f (e ∙ fit-zero entries ∙ sym (fit-none f entries max over))

-- a field that has space enters
pub entered-table : (entries left now : List Field) (max : ℕ) (f : Field) → left ≡ fit entries (max - size f) → now ≡ f ∷ left → size f ≤ max → table now max ≡ insert (table entries max) f
entered-table entries left now max f e k fits = inserted-table entries now max f (k ∙ ap (λ r. f ∷ r) e ∙ sym (fit-cons f entries max fits))

-- entries within the limit have places
pub have_places : (es : List Field) (limit : ℕ) → total_size es ≤ limit → length es ≤ places_for limit
have_places es limit h = omega (arith, total_size-length es)
