-- The results of files of cases as JUnit XML: each line of their TAP is some XML.
use Rattle.std.specs.Prelude.{ℕ, ◌==◌, ◌+◌, ◌-◌, ◌^◌, ◌++◌, min, List, [], ◌∷◌, codes, decimal, flat_map, if◌then◌else◌, nat_eq, Option, Some, None, option_and_then, unwrap_or}
use Rattle.std.specs.List.{starts_with}
use Rattle.std.specs.Str.{bytes_eq}
use Rattle.hex.specs.Hex.{encode_lower}
use Rattle.h2_spec.specs.Texts.Script.{lines_of}
use Rattle.h2_cmd_cases.specs.Lines.{behind}
use Rattle.h2_cmd_check.specs.Tap.{escaped, is_printable}
use Rattle.h2_cmd_check.specs.Texts.{before}
use Rattle.h2_cmd_check.specs.declared.junit.Counts.{Counts}
use Rattle.h2_cmd_check.specs.declared.junit.Suite.{Suite}
use Rattle.h2_cmd_check.specs.declared.junit.TapLine.{TapLine}
use Rattle.h2_cmd_check.specs.declared.junit.TapLine.TheVariants.{Passed, Skipped, Doubtful, Failed, Found, End, Mark}

-- ---- texts

-- an octet of a text or an attribute: where XML reads it as markup, as a reference (XML 1.0, 2.4); where it is not
-- printable, as a backslash and two hex digits
abbrev pub xml_octet : ℕ → List ℕ
xml_octet octet =
    if octet == 38 then codes "&amp;"
    else if octet == 60 then codes "&lt;"
    else if octet == 62 then codes "&gt;"
    else if octet == 34 then codes "&quot;"
    else if is_printable octet then octet ∷ [] else 92 ∷ encode_lower (octet ∷ [])

abbrev pub xml_text : List ℕ → List ℕ
xml_text octets = flat_map xml_octet octets

-- ---- lines

-- what follows the first dash
abbrev pub behind_dash : List ℕ → List ℕ
behind_dash [] = []
behind_dash (octet ∷ octets) = if octet == 45 then octets else behind_dash octets

-- the directive of a result: from the first ` # ` on, as in a name a backslash is before each `#`
abbrev pub directive_of : List ℕ → List ℕ
directive_of [] = []
directive_of (octet ∷ octets) = if starts_with nat_eq (octet ∷ octets) (codes " # ") then octet ∷ octets else directive_of octets

-- what it says after this mark
abbrev pub words_behind : (mark line : List ℕ) → Option (List ℕ)
words_behind mark line = behind mark (directive_of line)

-- a result that did not fail
abbrev pub passed_kind : (skipped_for : Option (List ℕ)) → TapLine
passed_kind None = Passed
passed_kind (Some words) = Skipped

-- one that did: a doubtful one is no failure
abbrev pub failed_kind : (to_do : Option (List ℕ)) → TapLine
failed_kind None = Failed
failed_kind (Some words) = Doubtful

-- a line of what was found; the block's first line, and the end of the text, have no XML
abbrev pub found_kind : List ℕ → TapLine
found_kind [] = Mark
found_kind (octet ∷ octets) =
    if bytes_eq (octet ∷ octets) (codes "  ---") then Mark
    else if bytes_eq (octet ∷ octets) (codes "  ...") then End else Found

-- what a line of TAP is
abbrev pub kind_of : List ℕ → TapLine
kind_of line =
    if starts_with nat_eq line (codes "ok ") then passed_kind (words_behind (codes " # SKIP ") line)
    else if starts_with nat_eq line (codes "not ok ") then failed_kind (words_behind (codes " # TODO ") line) else found_kind line

-- a text without its directive
abbrev pub undirected : List ℕ → List ℕ
undirected text = unwrap_or (before (directive_of text) text) text

-- the title of a result of a file, which TAP shows so
abbrev pub title_of_line : (shown : List ℕ) → List ℕ → Option (List ℕ)
title_of_line shown line =
    option_and_then (behind (codes ": ")) (behind shown (undirected (behind_dash line)))

abbrev pub title_or : List ℕ → Option (List ℕ) → List ℕ
title_or file None = file
title_or file (Some title) = title

-- the front of a result: its file, and its title, or the file where it has none
abbrev pub case_front : (file : List ℕ) → Option (List ℕ) → List ℕ
case_front file title = codes "<testcase classname=\"" ++ xml_text file ++ codes "\" name=\"" ++ xml_text (title_or file title) ++ codes "\""

-- why a result is no verdict: what its directive says after this mark
abbrev pub reason_behind : (mark line : List ℕ) → List ℕ
reason_behind mark line = unwrap_or (words_behind mark line) []

-- the front of such a result
abbrev pub skipped_front : (mark file shown line : List ℕ) → List ℕ
skipped_front mark file shown line =
    case_front file (title_of_line shown line) ++ codes "><skipped message=\"" ++ xml_text (reason_behind mark line) ++ codes "\""

-- a line of what was found, before this end of its result; a result without one shows nothing that was found
abbrev pub found_text : (end line : List ℕ) → List ℕ
found_text [] line = []
found_text (octet ∷ octets) line = xml_text line ++ codes "\n"

-- the XML of a line that is of this kind, where the result above has this end
abbrev pub xml_as : TapLine → (end file shown line : List ℕ) → List ℕ
xml_as Passed end file shown line = case_front file (title_of_line shown line) ++ codes "/>\n"
xml_as Skipped end file shown line = skipped_front (codes " # SKIP ") file shown line ++ codes "/></testcase>\n"
xml_as Doubtful end file shown line = skipped_front (codes " # TODO ") file shown line ++ codes ">\n"
xml_as Failed end file shown line = case_front file (title_of_line shown line) ++ codes "><failure message=\"what it expects does not hold\">\n"
xml_as Found end file shown line = found_text end line
xml_as End end file shown line = end
xml_as Mark end file shown line = []

-- the end of the result above the next line
abbrev pub end_after : (end : List ℕ) → TapLine → List ℕ
end_after end Passed = []
end_after end Skipped = []
end_after end Doubtful = codes "</skipped></testcase>\n"
end_after end Failed = codes "</failure></testcase>\n"
end_after end Found = end
end_after end End = end
end_after end Mark = end

-- the XML of lines, one after another
abbrev pub xml_lines : (end file shown : List ℕ) → List (List ℕ) → List ℕ
xml_lines end file shown [] = []
xml_lines end file shown (line ∷ lines) = xml_as (kind_of line) end file shown line ++ xml_lines (end_after end (kind_of line)) file shown lines

-- ---- files

-- numbers of 64 bits, which end at the greatest
abbrev pub one_more : ℕ → ℕ
one_more n = min (n + 1) (2 ^ 64 - 1)

abbrev pub with_line : Counts → TapLine → Counts
with_line c Passed = record { tests = one_more c.tests; failures = c.failures; skipped = c.skipped }
with_line c Skipped = record { tests = one_more c.tests; failures = c.failures; skipped = one_more c.skipped }
with_line c Doubtful = record { tests = one_more c.tests; failures = c.failures; skipped = one_more c.skipped }
with_line c Failed = record { tests = one_more c.tests; failures = one_more c.failures; skipped = c.skipped }
with_line c Found = c
with_line c End = c
with_line c Mark = c

-- how many results there are in lines, after others
abbrev pub counted : Counts → List (List ℕ) → Counts
counted c [] = c
counted c (line ∷ lines) = counted (with_line c (kind_of line)) lines

abbrev pub no_counts : Counts
no_counts = record { tests = 0; failures = 0; skipped = 0 }

-- the path of a file after the dash of its results
abbrev pub shown_path : List ℕ → List ℕ
shown_path file = codes " " ++ escaped file

abbrev pub counts_text : Counts → List ℕ
counts_text c =
    codes "\" tests=\"" ++ decimal c.tests ++ codes "\" failures=\"" ++ decimal c.failures
    ++ codes "\" errors=\"0\" skipped=\"" ++ decimal c.skipped ++ codes "\">\n"

abbrev pub suite_front : (file : List ℕ) → Counts → List ℕ
suite_front file c = codes "<testsuite name=\"" ++ xml_text file ++ counts_text c

-- the results of a file, as TAP
pub record FileResults : Type 0 where
  pub file : List ℕ
  pub results : List ℕ

abbrev pub results_in : Suite → FileResults
results_in s = record { file = s.file.now; results = s.results.items }

-- as XML
abbrev pub suite_text : FileResults → List ℕ
suite_text s =
    suite_front s.file (counted no_counts (lines_of s.results))
    ++ xml_lines [] s.file (shown_path s.file) (lines_of s.results) ++ codes "</testsuite>\n"

-- the results of files
abbrev pub junit_file : List FileResults → List ℕ
junit_file files = codes "<?xml version=\"1.0\" encoding=\"UTF-8\"?>\n<testsuites>\n" ++ flat_map suite_text files ++ codes "</testsuites>\n"

-- the same as TAP, with its first line, and with the last one, which is how many there are
abbrev pub tap_file : List FileResults → (count : ℕ) → List ℕ
tap_file files count = codes "TAP version 13\n" ++ flat_map (λ f. f.results) files ++ codes "1.." ++ decimal count ++ codes "\n"
