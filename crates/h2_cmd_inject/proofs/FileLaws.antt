-- The lines of a file, one after another.
use Rattle.std.proofs.Common.{◌≡◌, ◌∙◌, ℕ, ◌+◌, ◌-◌, ◌<◌, ◌≤◌, List, [], length, drop, get_or, map, Result, Ok, Err, Bor, ap, arith, sym, subst}
use Rattle.std.proofs.lemmas.List.{drop_all, drop_more}
use Rattle.h2_cmd_inject.specs.Dialogues.{Dialogue, Reading, ended_before, line_taken, line_then, lines_taken}
use Rattle.h2_cmd_inject.specs.declared.why.Why.{Why}

abbrev pub texts_from : ℕ → List (Bor (List ℕ)) → List (List ℕ)
texts_from i lines = map (λ t. t.now) (drop i lines)

line-is : (i : ℕ) (lines : List (Bor (List ℕ))) (d : Bor (List ℕ)) (r : Reading) → i < length lines
    → lines_taken (i + 1) (texts_from i lines) r ≡ line_then (i + 1) (line_taken (i + 1) (get_or lines i d).now r) (λ s. lines_taken (i + 1 + 1) (texts_from (i + 1) lines) s)
line-is i lines d r inside = ap (λ (ls : List (Bor (List ℕ))). lines_taken (i + 1) (map (λ t. t.now) ls) r) (drop_more lines i d inside)

-- a line was taken
pub line-next : (i : ℕ) (lines : List (Bor (List ℕ))) (d : Bor (List ℕ)) (r s : Reading) → i < length lines → line_taken (i + 1) (get_or lines i d).now r ≡ Ok s
    → lines_taken (i + 1) (texts_from i lines) r ≡ lines_taken (i + 1 + 1) (texts_from (i + 1) lines) s
line-next i lines d r s inside taken =
    line-is i lines d r inside ∙ ap (λ (x : Result Reading Why). line_then (i + 1) x (λ t. lines_taken (i + 1 + 1) (texts_from (i + 1) lines) t)) taken

-- a line was refused
pub line-refused : (i : ℕ) (lines : List (Bor (List ℕ))) (d : Bor (List ℕ)) (r : Reading) (reason : Why) → i < length lines
    → line_taken (i + 1) (get_or lines i d).now r ≡ Err reason → lines_taken (i + 1) (texts_from i lines) r ≡ Err (i + 1, reason)
line-refused i lines d r reason inside refused =
    line-is i lines d r inside ∙ ap (λ (x : Result Reading Why). line_then (i + 1) x (λ t. lines_taken (i + 1 + 1) (texts_from (i + 1) lines) t)) refused

-- after the last
pub lines-end : (i : ℕ) (lines : List (Bor (List ℕ))) (r : Reading) → i ≤ length lines → length lines ≤ i
    → lines_taken (i + 1) (texts_from i lines) r ≡ Ok (ended_before (length lines) r).dialogues
lines-end i lines r within end =
    let place : i + 1 - 1 ≡ length lines = omega (arith, within, end) in
    ap (λ (ls : List (Bor (List ℕ))). lines_taken (i + 1) (map (λ t. t.now) ls) r) (drop_all i lines end)
    ∙ ap (λ (k : ℕ). Ok (ended_before k r).dialogues) place
