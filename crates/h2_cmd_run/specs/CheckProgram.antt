-- What `check` reports: for each case of the files a result with the verdict on it, then how many there are; and the status.
use Rattle.std.specs.Prelude.{◌≡◌, ◌⊎◌, ◌++◌, ℕ, ◌+◌, ◌-◌, ◌^◌, min, Bool, true, false, ◌&&◌, not, List, [], ◌∷◌, codes, decimal, flat_map, length, map, nat_lt, Option, Some, None, option_and_then, Result, Ok, Err}
use Rattle.std.specs.Str.{is_utf8}
use Rattle.h2_spec.specs.Requests.Answer.{Entry}
use Rattle.h2_spec.specs.Texts.Script.{lines_of}
use Rattle.h2_spec.specs.State.{is_allowed}
use Rattle.h2_spec.specs.declared.connection.Config.{Config}
use Rattle.h2_cmd_book_file.specs.Entries.{Directory}
use Rattle.h2_cmd_cases.specs.CaseWords.{have_words}
use Rattle.h2_cmd_check.specs.Cases.{IsOutcome, Outcome, Skipped, Holds, Fails}
use Rattle.h2_cmd_cases.specs.Files.{cases_in, title_in}
use Rattle.h2_cmd_check.specs.Tap.{IsResult}
use Rattle.h2_cmd_args.specs.Grammar.{BookAsked}
use Rattle.h2_cmd_batch.specs.Books.{book_said}
use Rattle.h2_cmd_batch.specs.CaseSetups.{setup_of}
use Rattle.h2_cmd_batch.specs.CommandEnd.{PrintsSome}
use Rattle.h2_cmd_batch.specs.Input.{most}
use Rattle.h2_cmd_batch.specs.Printing.{Printed, failed, failed_after, refused}
use Rattle.h2_cmd_run.specs.declared.check.CaseTally.{CaseTally}
use Rattle.h2_cmd_batch.specs.declared.commands.each.PrintFault.{PrintFault}
use Rattle.h2_cmd_batch.specs.declared.commands.each.PrintFault.TheVariants.{Fault, NotWritten}
use Rattle.h2_cmd_batch.specs.declared.fault.BenchFault.TheVariants.{NoMemory}
use Rattle.h2_cmd_batch.specs.declared.case_setup.CaseSetup.{CaseSetup}
use Rattle.h2_cmd_batch.specs.declared.case_setup.Common.{Common}

-- what cases are played with that have no words of their own
abbrev pub common_of : Common → CaseSetup
common_of common = record { config = common.config; book = common.book.now }

-- ---- the verdict on a case

-- a case fails where its limits or its settings are out of range
abbrev pub IsOutcomeIf : (allowed : Bool) → List Entry → Config → List (List ℕ) → Outcome → Type 0
IsOutcomeIf false book config lines o = o ≡ Fails
IsOutcomeIf true book config lines o = IsOutcome book config lines o

abbrev pub IsOutcomeWith : List Entry → Config → List (List ℕ) → Outcome → Type 0
IsOutcomeWith book config lines o = IsOutcomeIf (is_allowed config) book config lines o

-- and where its words are refused
abbrev pub IsOutcomeOn : Option CaseSetup → List (List ℕ) → Outcome → Type 0
IsOutcomeOn None lines o = o ≡ Fails
IsOutcomeOn (Some setup) lines o = IsOutcomeWith setup.book setup.config lines o

-- what a case is played with: what its words say, if it has some, else what the command's do
abbrev pub setup_for : (worded : Bool) → Directory → CaseSetup → (file : List ℕ) → (lines : List (List ℕ)) → Option CaseSetup
setup_for true files common file lines = setup_of files file lines
setup_for false files common file lines = Some common

-- the verdict on a case of a file
abbrev pub IsCaseOutcome : Directory → CaseSetup → (file : List ℕ) → (lines : List (List ℕ)) → Outcome → Type 0
IsCaseOutcome files common file lines o = IsOutcomeOn (setup_for (have_words lines) files common file lines) lines o

-- ---- what there is a verdict on

-- a case of a file; or the file itself, if it is no text that can be read
pub record Subject : Type 0 where
  pub file : List ℕ
  pub lines : Option (List (List ℕ))

abbrev pub cases_if : (long text : Bool) → List ℕ → List (Option (List (List ℕ)))
cases_if true text octets = None ∷ []
cases_if false false octets = None ∷ []
cases_if false true octets = map (λ lines. Some lines) (cases_in (lines_of octets))

-- the cases of a file with these octets
abbrev pub cases_with : Option (List ℕ) → List (Option (List (List ℕ)))
cases_with None = None ∷ []
cases_with (Some octets) = cases_if (nat_lt most (length octets)) (is_utf8 octets) octets

abbrev pub subject : (file : List ℕ) → Option (List (List ℕ)) → Subject
subject file lines = record { file = file; lines = lines }

abbrev pub subjects_of : Directory → List ℕ → List Subject
subjects_of files file = map (subject file) (cases_with (files file))

-- those of files, in their order
abbrev pub all_subjects : Directory → List (List ℕ) → List Subject
all_subjects files names = flat_map (subjects_of files) names

abbrev pub title_of : Subject → Option (List ℕ)
title_of x = option_and_then title_in x.lines

abbrev pub IsOutcomeIn : Directory → CaseSetup → (file : List ℕ) → Option (List (List ℕ)) → Outcome → Type 0
IsOutcomeIn files common file None o = o ≡ Fails
IsOutcomeIn files common file (Some lines) o = IsCaseOutcome files common file lines o

-- the verdict on it
abbrev pub IsVerdict : Directory → CaseSetup → Subject → Outcome → Type 0
IsVerdict files common x o = IsOutcomeIn files common x.file x.lines o

-- ---- the results

-- numbers of 64 bits, which end at the greatest
abbrev pub one_more : ℕ → ℕ
one_more n = min (n + 1) (2 ^ 64 - 1)

abbrev pub is_failure : Outcome → Bool
is_failure Skipped = false
is_failure Holds = false
is_failure Fails = true

-- how many verdicts there are, and whether no case failed, with one more
abbrev pub tallied : CaseTally → Outcome → CaseTally
tallied t o = record { count = one_more t.count; all_hold = t.all_hold && not (is_failure o) }

-- it is cut short, as memory was refused
abbrev pub Stops : (cut : Bool) → (t : CaseTally) → List ℕ → CaseTally → Type 0
Stops false t text t' = ⊥
Stops true t text t' = (text ≡ []) × (t' ≡ t)

-- the results of these, one after another, with the tally before them and after them; or those of some first ones
abbrev pub AreReported : (cut : Bool) → Directory → CaseSetup → CaseTally → List Subject → List ℕ → CaseTally → Type 0
AreReported cut files common t [] text t' = (text ≡ []) × (t' ≡ t)
AreReported cut files common t (x ∷ xs) text t' =
    Stops cut t text t'
    ⊎ ((o : Outcome) × IsVerdict files common x o
    × (first : List ℕ) × IsResult (one_more t.count) x.file (title_of x) o first
    × (rest : List ℕ) × (text ≡ first ++ rest)
    × AreReported cut files common (tallied t o) xs rest t')

-- the result of one of them, of which this is the verdict; none where it is cut short
abbrev pub IsOneResult : (cut : Bool) → CaseTally → (file : List ℕ) → (title : Option (List ℕ)) → Outcome → List ℕ → CaseTally → Type 0
IsOneResult true t file title o text t' = (text ≡ []) × (t' ≡ t)
IsOneResult false t file title o text t' = IsResult (one_more t.count) file title o text × (t' ≡ tallied t o)

-- the output gained it
abbrev pub ReportsOne : (cut : Bool) → CaseTally → (file : List ℕ) → (title : Option (List ℕ)) → Outcome → CaseTally → (before after : Option (List ℕ)) → Type 0
ReportsOne cut t file title o t' before after =
    (held : List ℕ) → before ≡ Some held → (text : List ℕ) × (after ≡ Some (held ++ text)) × IsOneResult cut t file title o text t'

-- the output gained them
abbrev pub Reports : (cut : Bool) → Directory → CaseSetup → CaseTally → List Subject → CaseTally → (before after : Option (List ℕ)) → Type 0
Reports cut files common t xs t' before after =
    (held : List ℕ) → before ≡ Some held → (text : List ℕ) × (after ≡ Some (held ++ text)) × AreReported cut files common t xs text t'

-- ---- the program

abbrev pub first_tally : CaseTally
first_tally = record { count = 0; all_hold = true }

abbrev pub version_line : List ℕ
version_line = codes "TAP version 13\n"

-- how many results there are, the last line
abbrev pub plan_line : ℕ → List ℕ
plan_line count = codes "1.." ++ decimal count ++ codes "\n"

-- the status: whether no case failed
abbrev pub check_status : (all_hold : Bool) → ℕ
check_status true = 0
check_status false = 1

-- the results for the cases of these files, how many there are, and the status
pub record IsComplete (files : Directory) (common : CaseSetup) (names : List (List ℕ)) (t : Printed) : Type 0 where
  pub tally : CaseTally
  pub results : List ℕ
  pub reported : AreReported false files common first_tally (all_subjects files names) results tally
  pub whole : t ≡ record { text = version_line ++ results ++ plan_line tally.count; status = check_status tally.all_hold }

-- or some first results, and then memory was refused
pub record IsCut (files : Directory) (common : CaseSetup) (names : List (List ℕ)) (t : Printed) : Type 0 where
  pub tally : CaseTally
  pub results : List ℕ
  pub reported : AreReported true files common first_tally (all_subjects files names) results tally
  pub whole : t ≡ failed_after (version_line ++ results) NoMemory

abbrev pub IsChecked : Directory → CaseSetup → List (List ℕ) → Printed → Type 0
IsChecked files common names t = IsComplete files common names t ⊎ IsCut files common names t

-- whether a write failed
abbrev pub not_checked : Result Bool PrintFault → Bool
not_checked (Ok all_hold) = false
not_checked (Err (Fault fault)) = false
not_checked (Err NotWritten) = true

-- what is printed where a text was written, and then it ended so
abbrev pub checked_after : List ℕ → Result Bool PrintFault → Printed
checked_after text (Ok all_hold) = record { text = text; status = check_status all_hold }
checked_after text (Err (Fault fault)) = failed_after text fault
checked_after text (Err NotWritten) = record { text = text; status = 3 }

-- how many there are was written, or not, where memory was refused
abbrev pub IsPlanned : CaseTally → Result Bool PrintFault → List ℕ → Type 0
IsPlanned t (Ok all_hold) text = (text ≡ plan_line t.count) × (all_hold ≡ t.all_hold)
IsPlanned t (Err fault) text = (text ≡ []) × (fault ≡ Fault NoMemory)

abbrev pub PlansCases : CaseTally → Result Bool PrintFault → (before after : Option (List ℕ)) → Type 0
PlansCases t ended before after = (held : List ℕ) → before ≡ Some held → (text : List ℕ) × (after ≡ Some (held ++ text)) × IsPlanned t ended text

-- the output gained a text, and with how it ended it is such an answer
abbrev pub ChecksFiles : Directory → CaseSetup → List (List ℕ) → Result Bool PrintFault → (before after : Option (List ℕ)) → Type 0
ChecksFiles files common names ended before after =
    (held : List ℕ) → before ≡ Some held → (text : List ℕ) × (after ≡ Some (held ++ text)) × IsChecked files common names (checked_after text ended)

-- with a book that may be refused
abbrev pub ChecksWith : Directory → Config → Result (List Entry) ℕ → List (List ℕ) → Printed → Type 0
ChecksWith files config (Err fault) names t = t ≡ refused fault
ChecksWith files config (Ok book) names t = IsChecked files (record { config = config; book = book }) names t

-- or memory was refused before anything was written
abbrev pub IsCheck : Directory → Config → BookAsked → List (List ℕ) → Printed → Type 0
IsCheck files config book names t = (t ≡ failed NoMemory) ⊎ ChecksWith files config (book_said files book) names t

-- where no write failed: the output gained such a text, and the status is its
abbrev pub EndsCheck : Directory → Config → BookAsked → List (List ℕ) → Option (List ℕ) → Option (List ℕ) → ℕ → Type 0
EndsCheck files config book names before after status =
    PrintsSome (λ t. IsCheck files config book names t) before after status
