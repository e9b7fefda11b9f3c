-- What `--strict` says in the last line: how many items there were, and how many errors and warnings.
use Rattle.std.specs.Prelude.{◌≡◌, ℕ, ◌+◌, ◌-◌, ◌^◌, min, ◌==◌, if◌then◌else◌, Bool, List, [], ◌∷◌, ◌++◌, codes, decimal, length, Option, Some, None}
use Rattle.h2_spec.specs.State.{State}
use Rattle.h2_spec.specs.Texts.Show.{joined}
use Rattle.h2_explain_item.specs.Warnings.{is_unacknowledged, one_if}
use Rattle.h2_explain_text.specs.Lines.{ended}
use Rattle.h2_explain.specs.Verdicts.{Tallied, is_answer_unfinished}

-- a number of things: `no error`, `1 error`, `2 errors`
abbrev pub number_of : ℕ → (thing : List ℕ) → List ℕ
number_of n thing =
    if n == 0 then joined (codes "no " ∷ thing ∷ []) else if n == 1 then joined (codes "1 " ∷ thing ∷ []) else joined (decimal n ∷ codes " " ∷ thing ∷ codes "s" ∷ [])

-- how many warnings the end has: one where the server's settings are not acknowledged, and one where an answer waits (6.5.3, 6.9);
-- none where nobody is blamed since an item
abbrev pub end_warnings : (since : Option ℕ) → State → ℕ
end_warnings None s = one_if (is_unacknowledged s.core) + one_if (is_answer_unfinished s)
end_warnings (Some since) s = 0

-- those of items and of the end, as far as 64 bits count
abbrev pub all_warnings : (since : Option ℕ) → Tallied → State → ℕ
all_warnings since tally s = min (tally.warnings + end_warnings since s) (2 ^ 64 - 1)

-- that nobody is blamed since an item, if it is so
unfoldable pub since_words : (since : Option ℕ) → List ℕ
since_words None = []
since_words (Some since) = joined (codes "; not judged, the script has spoken since #" ∷ decimal since ∷ [])

-- the words of the line; how many errors each cause has is given in words
unfoldable pub tally_words : (since : Option ℕ) → (items errors warnings : ℕ) → (by_cause : List ℕ) → List ℕ
tally_words since items errors warnings by_cause =
    joined (number_of items (codes "item") ∷ codes ", " ∷ number_of errors (codes "error") ∷ by_cause ∷ codes ", " ∷ number_of warnings (codes "warning") ∷ since_words since ∷ [])

-- lines whose last one ends with these words
abbrev pub EndsWithTally : (since : Option ℕ) → (color : Bool) → State → (items : ℕ) → Tallied → List ℕ → Type 0
EndsWithTally since color s items tally t = (front by_cause : List ℕ)
    × (t ≡ front ++ (tally_words since items (length tally.errors) (all_warnings since tally s) by_cause ++ ended color))
