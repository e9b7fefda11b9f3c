-- The text of a dialogue's result, by version 13 of the Test Anything Protocol.
use Rattle.std.specs.Prelude.{◌≡◌, ℕ, ◌+◌, min, ◌==◌, ◌||◌, not, Bool, true, false, List, [], ◌∷◌, ◌++◌, codes, decimal, if◌then◌else◌, Option, None}
use Rattle.std.specs.List.{list_any}
use Rattle.h2_cmd_check.specs.Tap.{result_front}
use Rattle.h2_spec.specs.State.{State}
use Rattle.h2_spec.specs.declared.causes.Cause.{Cause}
use Rattle.h2_cmd_dialogue.specs.Causes.{last_cause}
use Rattle.h2_cmd_dialogue.specs.Findings.{is_broken}
use Rattle.h2_cmd_dialogue.specs.declared.findings.Finding.{Finding}
use Rattle.h2_cmd_dialogue.specs.declared.findings.Found.{Found}
use Rattle.h2_cmd_dialogue.specs.declared.findings.Found.TheVariants as found
use Rattle.h2_cmd_dialogue.specs.declared.play.End.{End}
use Rattle.h2_cmd_dialogue.specs.declared.play.End.TheVariants as end
use Rattle.h2_cmd_dialogue.specs.declared.verdict.Judged.{Judged}
use Rattle.h2_cmd_dialogue.specs.declared.verdict.Judged.TheVariants.{Same, Allowed, Unsettled, Broken}

abbrev pub is_unsettled : Judged → Bool
is_unsettled Same = false
is_unsettled Allowed = false
is_unsettled Unsettled = true
is_unsettled Broken = false

abbrev pub is_allowed : Judged → Bool
is_allowed Same = false
is_allowed Allowed = true
is_allowed Unsettled = false
is_allowed Broken = false

-- whether something is broken, or left open by the RFC
abbrev pub has_broken : List Finding → Bool
has_broken findings = list_any (λ (f : Finding). is_broken f.judged) findings

abbrev pub is_open : List Finding → Bool
is_open findings = list_any (λ (f : Finding). is_unsettled f.judged) findings

-- either makes the result `not ok`
abbrev pub decides : List Finding → Bool
decides findings = has_broken findings || is_open findings

-- the words after the name of a result: what the RFC leaves open does not count
abbrev pub directive : List Finding → List ℕ
directive findings =
    if has_broken findings then codes "\n"
    else if is_open findings then codes " # TODO the RFC leaves it open, or the code is neither named nor generic\n"
    else codes "\n"

-- the cause of the server's error, where that ended a connection on which these octets came
abbrev pub cause_by : End → State → List ℕ → Option Cause
cause_by end.Closed s octets = None
cause_by end.Silent s octets = None
cause_by (end.ByServer code) s octets = last_cause s octets
cause_by end.NoFrames s octets = None
cause_by end.TooMuch s octets = None
cause_by end.Late s octets = None

-- ---- texts one after another

abbrev pub joined : List (List ℕ) → List ℕ
joined [] = []
joined (p ∷ []) = p
joined (p ∷ q ∷ ps) = p ++ joined (q ∷ ps)

-- the text of each, in their order
abbrev pub Each : {X : Type 0} → (X → List ℕ → Type 0) → List X → List ℕ → Type 0
Each Is [] text = text ≡ []
Each Is (x ∷ xs) text = (one rest : List ℕ) × Is x one × Each Is xs rest × (text ≡ one ++ rest)

-- a text was put after octets
abbrev pub AppendsOne : (List ℕ → Type 0) → (old new : List ℕ) → Type 0
AppendsOne Is old new = (text : List ℕ) × Is text × (new ≡ old ++ text)

abbrev pub AppendsSome : {X : Type 0} → (X → List ℕ → Type 0) → List X → (old new : List ℕ) → Type 0
AppendsSome Is xs old new = AppendsOne (Each Is xs) old new

-- ---- verdicts in YAML

-- those that are broken are shown, or, where none is, those that are left open
abbrev pub is_shown : (has_broken : Bool) → Judged → Bool
is_shown true judged = is_broken judged
is_shown false judged = is_unsettled judged

-- the number of a line; what is about the dialogue is about its title
abbrev pub line_shown : (first line : ℕ) → ℕ
line_shown first line = if line == 0 then min (first + 1) 18446744073709551615 else line

-- the line, what is wanted, and what was found
abbrev pub IsVerdict : (line : ℕ) → List ℕ → Type 0
IsVerdict line text = (wanted found : List ℕ) × (text ≡ joined (
    codes "  - line: " ∷ decimal line ∷ codes "\n    wanted: \"" ∷ wanted ∷ codes "\"\n    found: \"" ∷ found ∷ codes "\"\n" ∷ []))

abbrev pub IsVerdictOf : (is_shown : Bool) → (line : ℕ) → List ℕ → Type 0
IsVerdictOf true line text = IsVerdict line text
IsVerdictOf false line text = text ≡ []

abbrev pub IsVerdictIf : (has_broken : Bool) → (first : ℕ) → Finding → List ℕ → Type 0
IsVerdictIf broken first f text = IsVerdictOf (is_shown broken f.judged) (line_shown first f.line) text

abbrev pub AreVerdictsIf : (decides : Bool) → (first : ℕ) → List Finding → List ℕ → Type 0
AreVerdictsIf true first findings text = (body : List ℕ) × Each (IsVerdictIf (has_broken findings) first) findings body
    × (text ≡ codes "  ---\n" ++ body ++ codes "  ...\n")
AreVerdictsIf false first findings text = text ≡ []

-- a block of YAML where something decides
abbrev pub AreVerdicts : (first : ℕ) → List Finding → List ℕ → Type 0
AreVerdicts first findings text = AreVerdictsIf (decides findings) first findings text

-- ---- notes in comments

abbrev pub note_mark : Found → List ℕ
note_mark (found.Reaction line taken) = codes "# allowed: "
note_mark (found.Sends is_sent) = codes "# allowed: "
note_mark found.Missing = codes "# allowed: "
note_mark (found.Limit fault) = codes "# allowed: "
note_mark (found.Late count) = codes "# allowed: "
note_mark (found.Ended end) = codes "# allowed: "
note_mark found.Lingers = codes "# lingers: "

abbrev pub IsNote : Found → List ℕ → Type 0
IsNote f text = (found wanted : List ℕ) × (text ≡ joined (note_mark f ∷ found ∷ codes "; wanted: " ∷ wanted ∷ codes "\n" ∷ []))

abbrev pub IsNoteOf : (is_allowed : Bool) → Found → List ℕ → Type 0
IsNoteOf true f text = IsNote f text
IsNoteOf false f text = text ≡ []

abbrev pub IsNoteIf : Finding → List ℕ → Type 0
IsNoteIf f text = IsNoteOf (is_allowed f.judged) f.found text

-- ---- the whole

-- the result of the dialogue with this number: its line, the verdicts that decide, and notes
pub record IsResult (number : ℕ) (file : List ℕ) (title : Option (List ℕ)) (first : ℕ) (findings : List Finding) (text : List ℕ) : Type 0 where
  pub verdicts : List ℕ
  pub notes : List ℕ
  pub are_verdicts : AreVerdicts first findings verdicts
  pub are_notes : Each IsNoteIf findings notes
  pub whole : text ≡ result_front (not (decides findings)) number file title ++ directive findings ++ verdicts ++ notes
