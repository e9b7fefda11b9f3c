-- Lines that are expected of a text.
use Rattle.std.specs.Prelude.{ℕ, ◌-◌, ◌&&◌, Bool, not, List, length, take, drop, nat_eq, codes, if◌then◌else◌, Option, Some, None}
use Rattle.std.specs.List.{list_any, starts_with}
use Rattle.std.specs.Str.{bytes_eq}
use Rattle.h2_explain_text.specs.Lines.{indent}
use Rattle.h2_spec.specs.Texts.Script.{lines_of}
use Rattle.h2_cmd_check.specs.Frames.{is_none}
use Rattle.h2_cmd_cases.specs.Lines.{behind}

-- what precedes an end of a text
abbrev pub before : List ℕ → List ℕ → Option (List ℕ)
before end text = if bytes_eq (drop (length text - length end) text) end then Some (take (length text - length end) text) else None

-- a line begins as it has to, or is what it has to be
abbrev pub fits_front : Option (List ℕ) → List ℕ → List ℕ → Bool
fits_front (Some front) expected line = starts_with nat_eq line front
fits_front None expected line = bytes_eq line expected

-- a line is the one that is expected, or begins as it does where that ends in `...`; what follows the last line feed of a
-- text is no line
abbrev pub fits : List ℕ → List ℕ → Bool
fits expected line = not (is_none line) && fits_front (before (codes "...") expected) expected line

-- a line of `explain` without its indent
abbrev pub if_indented : List ℕ → Option (List ℕ) → List ℕ
if_indented line None = line
if_indented line (Some rest) = rest

abbrev pub without_indent : List ℕ → List ℕ
without_indent line = if_indented line (behind indent line)

-- a text has the line that is expected
abbrev pub has_line : List ℕ → List ℕ → Bool
has_line text expected = list_any (fits expected) (lines_of text)

-- the same, or after `! ` that it has not, where a line follows
abbrev pub has_line_as : Option (List ℕ) → List ℕ → List ℕ → Bool
has_line_as (Some line) text expected = not (is_none line) && not (has_line text line)
has_line_as None text expected = has_line text expected

abbrev pub shows : List ℕ → List ℕ → Bool
shows text expected = has_line_as (behind (codes "! ") expected) text expected

-- a text of `explain` has the line that is expected, apart from its indent
abbrev pub has_indented : List ℕ → List ℕ → Bool
has_indented text expected = list_any (λ l. fits expected (without_indent l)) (lines_of text)

-- the same, or after `! ` that it has not, where a line follows
abbrev pub has_indented_as : Option (List ℕ) → List ℕ → List ℕ → Bool
has_indented_as (Some line) text expected = not (is_none line) && not (has_indented text line)
has_indented_as None text expected = has_indented text expected

abbrev pub explains : List ℕ → List ℕ → Bool
explains text expected = has_indented_as (behind (codes "! ") expected) text expected
