-- Runs of a kept table, one after another.
use Rattle.std.proofs.Common.{◌≡◌, ℕ, zero, suc, ◌+◌, ◌<◌, ◌≤◌, List, [], ◌∷◌, ◌++◌, length, take, drop, get_or, ap, ◌∙◌, sym, arith, length-append, append_assoc, take-add}
use Rattle.std.proofs.lemmas.List.{append-nil, take_more}
use Rattle.h2_spec.specs.Hpack.Field.{Field}
use Rattle.h2_table.specs.Runs.{entries_in}

-- one run more
pub entries-push : (runs : List (List Field)) (run : List Field) → entries_in (runs ++ run ∷ []) ≡ entries_in runs ++ run
entries-push [] run = append-nil run
entries-push (r ∷ runs) run = ap (λ es. r ++ es) (entries-push runs run) ∙ sym (append_assoc r (entries_in runs) run)

-- where runs have the first entries of a list, and one more has those after them
pub entries-more : (runs : List (List Field)) (run xs : List Field) (n m : ℕ) → entries_in runs ≡ take n xs → run ≡ take m (drop n xs) → entries_in (runs ++ run ∷ []) ≡ take (n + m) xs
entries-more runs run xs n m first after = entries-push runs run ∙ ap (λ es. es ++ run) first ∙ ap (λ r. take n xs ++ r) after ∙ sym (take-add n m xs)

-- the entries of the first runs, and of the one after them
pub entries-next : (runs : List (List Field)) (i : ℕ) (run : List Field) → i < length runs → run ≡ get_or runs i run → entries_in (take (i + 1) runs) ≡ entries_in (take i runs) ++ run
entries-next runs i run inside at =
    ap entries_in (take_more runs i run inside)
    ∙ entries-push (take i runs) (get_or runs i run)
    ∙ ap (λ r. entries_in (take i runs) ++ r) (sym at)

-- which are no more than those of all
pub entries-within : (runs : List (List Field)) (i : ℕ) (run : List Field) → i < length runs → run ≡ get_or runs i run → length (entries_in (take i runs)) + length run ≤ length (entries_in runs)
entries-within [] i run inside at = absurd (omega arith)
entries-within (r ∷ runs) zero run inside at = omega (arith, ap length at, length-append r (entries_in runs))
entries-within (r ∷ runs) (suc i) run inside at =
    omega (arith, entries-within runs i run (omega arith) at, length-append r (entries_in runs), length-append r (entries_in (take i runs)))
