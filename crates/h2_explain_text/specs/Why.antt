-- Why an item was an error, or was ignored, as `why` of `debug` prints it.
use Rattle.std.specs.Prelude.{ℕ, false, List, [], ◌∷◌, codes, Option, Some, None}
use Rattle.h2_spec.specs.declared.causes.Cause.{Cause}
use Rattle.h2_spec.specs.declared.connection.Phase.{Phase}
use Rattle.h2_spec.specs.declared.ignored.Ignored.{Ignored}
use Rattle.h2_spec.specs.declared.special_cases.SpecialCase.{SpecialCase}
use Rattle.h2_spec.specs.Causes.Cause.{code_of}
use Rattle.h2_spec.specs.Causes.CauseWords.{cause_name}
use Rattle.h2_spec.specs.Causes.IgnoredWords.{ignored_name}
use Rattle.h2_spec.specs.Causes.Rules.{Row}
use Rattle.h2_spec.specs.Texts.Show.{joined}
use Rattle.h2_explain_words.specs.Names.{error_name}
use Rattle.h2_explain_item.specs.Special.{rule_of_cause, rule_of_reason}
use Rattle.h2_explain_text.specs.Lines.{row_lines, scope}
use Rattle.h2_explain_text.specs.declared.paint.Role.TheVariants as role

-- the two lines of an error: as `explain` prints them, without blanks before them, and with the sentence of the rule
unfoldable pub error_why : Phase → Cause → Row → List ℕ
error_why phase cause row = joined (scope phase ∷ error_name (code_of cause) ∷ codes ": " ∷ cause_name cause ∷ row_lines [] false role.Error row row.sentence ∷ [])

-- the two lines of an item that was ignored
unfoldable pub ignored_why : Ignored → Row → List ℕ
ignored_why reason row = joined (codes "ignored: " ∷ ignored_name reason ∷ row_lines [] false role.Ignored row row.sentence ∷ [])

-- why an item was ignored, or that it was no error
abbrev pub reason_why : Option Ignored → Option SpecialCase → List ℕ
reason_why (Some reason) case = ignored_why reason (rule_of_reason reason case)
reason_why None case = codes "no error\n"

-- why an item was an error, by the phase of the connection after it, or was ignored, and which special case that is
abbrev pub why_lines : Phase → Option Cause → Option Ignored → Option SpecialCase → List ℕ
why_lines phase (Some cause) ignored case = error_why phase cause (rule_of_cause cause case)
why_lines phase None ignored case = reason_why ignored case

-- the first words alone: which error it was, and its cause, or the reason
unfoldable pub error_name_line : Phase → Cause → List ℕ
error_name_line phase cause = joined (scope phase ∷ error_name (code_of cause) ∷ codes ": " ∷ cause_name cause ∷ codes "\n" ∷ [])

unfoldable pub reason_name_line : Option Ignored → List ℕ
reason_name_line (Some reason) = joined (codes "ignored: " ∷ ignored_name reason ∷ codes "\n" ∷ [])
reason_name_line None = codes "no error\n"

abbrev pub head_line : Phase → Option Cause → Option Ignored → List ℕ
head_line phase (Some cause) ignored = error_name_line phase cause
head_line phase None ignored = reason_name_line ignored
