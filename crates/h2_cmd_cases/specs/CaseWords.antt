-- The words of the command line that a case has in its lines.
use Rattle.std.specs.Prelude.{ℕ, ◌==◌, ◌||◌, Bool, true, false, List, [], ◌∷◌, codes, Option, Some, None}
use Rattle.std.specs.List.{list_any, position_or_len}
use Rattle.std.specs.Option.{option_and_then}
use Rattle.h2_cmd_cases.specs.Lines as line
use Rattle.h2_cmd_cases.specs.Lines.{CaseLine, behind, line_said}
use Rattle.h2_cmd_cases.specs.Shell.{with_words}

-- whether a line has words of the command line
abbrev pub says_words : CaseLine → Bool
says_words (line.Words text) = true
says_words (line.Script text) = false
says_words (line.Title text) = false
says_words (line.Unspaced text) = false
says_words (line.Sent text) = false
says_words (line.Shown text) = false
says_words (line.Cause text) = false
says_words (line.Reason text) = false
says_words (line.Explained text) = false
says_words (line.Command text) = false

-- whether lines do
abbrev pub have_words : List (List ℕ) → Bool
have_words lines = list_any (λ l. says_words (line_said l)) lines

-- how many lines there are before the first that has some; all of them where none has
abbrev pub before_words : List (List ℕ) → ℕ
before_words lines = position_or_len (λ l. says_words (line_said l)) lines

-- what follows the name of an option
abbrev pub ends_option : Option (List ℕ) → Bool
ends_option None = false
ends_option (Some []) = true
ends_option (Some (c ∷ cs)) = c == 61

-- a word is this option: alone, or before `=` and a value
abbrev pub is_option : List ℕ → List ℕ → Bool
is_option word name = ends_option (behind name word)

-- it has no effect in a case
abbrev pub is_idle : List ℕ → Bool
is_idle word = is_option word (codes "--in") || (is_option word (codes "--raw") || (is_option word (codes "--prompt") || is_option word (codes "--quiet")))

-- one of these words has none
abbrev pub have_idle_word : Option (List (List ℕ)) → Bool
have_idle_word None = false
have_idle_word (Some words) = list_any is_idle words

-- whether a line has such a word
abbrev pub says_idle : CaseLine → Bool
says_idle (line.Words text) = have_idle_word (with_words [] text)
says_idle (line.Script text) = false
says_idle (line.Title text) = false
says_idle (line.Unspaced text) = false
says_idle (line.Sent text) = false
says_idle (line.Shown text) = false
says_idle (line.Cause text) = false
says_idle (line.Reason text) = false
says_idle (line.Explained text) = false
says_idle (line.Command text) = false

-- whether lines have one
abbrev pub have_idle : List (List ℕ) → Bool
have_idle lines = list_any (λ l. says_idle (line_said l)) lines

-- how many lines there are before the first that has one; all of them where none has
abbrev pub before_idle : List (List ℕ) → ℕ
before_idle lines = position_or_len (λ l. says_idle (line_said l)) lines

-- words, and after them those that a line says, if it says them well
abbrev pub with_said : List (List ℕ) → CaseLine → Option (List (List ℕ))
with_said words (line.Words text) = with_words words text
with_said words (line.Script text) = Some words
with_said words (line.Title text) = Some words
with_said words (line.Unspaced text) = Some words
with_said words (line.Sent text) = Some words
with_said words (line.Shown text) = Some words
with_said words (line.Cause text) = Some words
with_said words (line.Reason text) = Some words
with_said words (line.Explained text) = Some words
with_said words (line.Command text) = Some words

-- words, and after them those of lines, one line after another
abbrev pub with_case_words : List (List ℕ) → List (List ℕ) → Option (List (List ℕ))
with_case_words words [] = Some words
with_case_words words (l ∷ ls) = option_and_then (λ more. with_case_words more ls) (with_said words (line_said l))
