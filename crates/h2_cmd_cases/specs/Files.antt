-- The cases of a file: each begins at a line with a title; a file without one is one case.
use Rattle.std.specs.Prelude.{ℕ, ◌+◌, ◌==◌, ◌&&◌, nat_lt, Bool, true, false, not, List, [], ◌∷◌, length, take, drop, is_some, if◌then◌else◌, Option, Some, None}
use Rattle.std.specs.List.{list_all, list_any, position_or_len}
use Rattle.h2_cmd_cases.specs.Lines as line
use Rattle.h2_cmd_cases.specs.Lines.{CaseLine, begins, expects, line_said}

-- how many lines the case has that lines begin with: the first, and those before the next that begins a case
abbrev pub case_length : List (List ℕ) → ℕ
case_length [] = 0
case_length (l ∷ ls) = 1 + position_or_len (λ l. begins (line_said l)) ls

abbrev pub title_said : CaseLine → Option (List ℕ)
title_said (line.Title text) = Some text
title_said (line.Unspaced text) = None
title_said (line.Script text) = None
title_said (line.Words text) = None
title_said (line.Sent text) = None
title_said (line.Shown text) = None
title_said (line.Cause text) = None
title_said (line.Reason text) = None
title_said (line.Explained text) = None
title_said (line.Command text) = None

-- the title that the first line has
abbrev pub title_in : List (List ℕ) → Option (List ℕ)
title_in [] = None
title_in (l ∷ ls) = title_said (line_said l)

-- a line is empty, or a comment
abbrev pub is_empty_or_comment : List ℕ → Bool
is_empty_or_comment [] = true
is_empty_or_comment (c ∷ cs) = c == 59

-- it says nothing of a case
abbrev pub is_silent : CaseLine → Bool
is_silent (line.Script text) = is_empty_or_comment text
is_silent (line.Title text) = false
is_silent (line.Unspaced text) = false
is_silent (line.Words text) = false
is_silent (line.Sent text) = false
is_silent (line.Shown text) = false
is_silent (line.Cause text) = false
is_silent (line.Reason text) = false
is_silent (line.Explained text) = false
is_silent (line.Command text) = false

abbrev pub is_silent_line : List ℕ → Bool
is_silent_line line = is_silent (line_said line)

-- lines expect something
abbrev pub expect_something : List (List ℕ) → Bool
expect_something lines = list_any (λ l. expects (line_said l)) lines

-- ---- the cases of a file

-- lines in front of the first title are no case where they say nothing
abbrev pub is_preamble : List (List ℕ) → ℕ → Bool
is_preamble lines n = nat_lt n (length lines) && (not (is_some (title_in lines)) && list_all is_silent_line (take n lines))

-- how many lines are in front of the first case
abbrev pub preamble_length : List (List ℕ) → ℕ
preamble_length lines = if is_preamble lines (case_length lines) then case_length lines else 0

-- a line in front of the cases after it: it begins one of its own where the next line begins one, else it is the first
-- line of the next
abbrev pub in_front : List ℕ → List (List (List ℕ)) → List (List (List ℕ))
in_front l [] = (l ∷ []) ∷ []
in_front l ([] ∷ cases) = (l ∷ []) ∷ cases
in_front l ((m ∷ ms) ∷ cases) = if begins (line_said m) then (l ∷ []) ∷ (m ∷ ms) ∷ cases else (l ∷ m ∷ ms) ∷ cases

-- the lines of each case: a line that begins a case is its first
unfoldable pub cases_from : List (List ℕ) → List (List (List ℕ))
cases_from [] = []
cases_from (l ∷ ls) = in_front l (cases_from ls)

-- the cases of a file's lines
abbrev pub cases_in : List (List ℕ) → List (List (List ℕ))
cases_in lines = cases_from (drop (preamble_length lines) lines)
