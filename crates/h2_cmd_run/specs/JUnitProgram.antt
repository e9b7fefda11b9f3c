-- What `check --junit FILE` does: it prints the results of cases, and FILE has them as JUnit XML.
use Rattle.std.specs.Prelude.{◌≡◌, ◌⊎◌, ℕ, false, List, [], ◌∷◌, Option, Result, Ok, Err}
use Rattle.h2_spec.specs.Requests.Answer.{Entry}
use Rattle.h2_spec.specs.declared.connection.Config.{Config}
use Rattle.h2_cmd_book_file.specs.Entries.{Directory}
use Rattle.h2_cmd_book_file.specs.Files.{Replaces}
use Rattle.h2_cmd_check.specs.JUnit.{FileResults, junit_file, tap_file}
use Rattle.h2_cmd_args.specs.Grammar.{BookAsked}
use Rattle.h2_cmd_batch.specs.Books.{book_said}
use Rattle.h2_cmd_batch.specs.CommandEnd.{PrintsSome}
use Rattle.h2_cmd_batch.specs.Printing.{Printed, failed, refused}
use Rattle.h2_cmd_batch.specs.declared.case_setup.CaseSetup.{CaseSetup}
use Rattle.h2_cmd_batch.specs.declared.commands.each.PrintFault.TheVariants.{Fault}
use Rattle.h2_cmd_batch.specs.declared.fault.BenchFault.{BenchFault}
use Rattle.h2_cmd_batch.specs.declared.fault.BenchFault.TheVariants.{NoMemory}
use Rattle.h2_cmd_run.specs.CheckProgram.{AreReported, checked_after, first_tally, subjects_of}
use Rattle.h2_cmd_run.specs.declared.check.CaseTally.{CaseTally}

-- the results of the cases of each file, with the tally before them and after them
abbrev pub AreSuites : Directory → CaseSetup → CaseTally → (names : List (List ℕ)) → List FileResults → CaseTally → Type 0
AreSuites files common t [] suites t' = (suites ≡ []) × (t' ≡ t)
AreSuites files common t (name ∷ names) suites t' =
    (results : List ℕ) × (between : CaseTally) × AreReported false files common t (subjects_of files name) results between
    × (rest : List FileResults) × (suites ≡ record { file = name; results = results } ∷ rest) × AreSuites files common between names rest t'

-- the results were printed, and the file has them; or the line of the fault for which it was not written follows them, and
-- files are as they were
abbrev pub IsPrinted : Directory → (file : List ℕ) → List FileResults → CaseTally → Directory → Printed → Type 0
IsPrinted files file suites t files' p =
    (Replaces files file (junit_file suites) files' × (p ≡ checked_after (tap_file suites t.count) (Ok t.all_hold)))
    ⊎ ((files' ≡ files) × ((fault : BenchFault) × (p ≡ checked_after (tap_file suites t.count) (Err (Fault fault)))))

-- or memory was refused before anything was printed
abbrev pub IsPrintedOr : Directory → (file : List ℕ) → List FileResults → CaseTally → Directory → Printed → Type 0
IsPrintedOr files file suites t files' p = ((files' ≡ files) × (p ≡ failed NoMemory)) ⊎ IsPrinted files file suites t files' p

abbrev pub IsJUnit : Directory → CaseSetup → (names : List (List ℕ)) → (file : List ℕ) → Directory → Printed → Type 0
IsJUnit files common names file files' p =
    ((files' ≡ files) × (p ≡ failed NoMemory))
    ⊎ ((suites : List FileResults) × (t : CaseTally) × AreSuites files common first_tally names suites t × IsPrinted files file suites t files' p)

-- with a book that may be refused
abbrev pub IsJUnitWith : Directory → Config → Result (List Entry) ℕ → (names : List (List ℕ)) → (file : List ℕ) → Directory → Printed → Type 0
IsJUnitWith files config (Err fault) names file files' p = (files' ≡ files) × (p ≡ refused fault)
IsJUnitWith files config (Ok book) names file files' p = IsJUnit files (record { config = config; book = book }) names file files' p

abbrev pub IsJUnitCheck : Directory → Config → BookAsked → (names : List (List ℕ)) → (file : List ℕ) → Directory → Printed → Type 0
IsJUnitCheck files config book names file files' p =
    ((files' ≡ files) × (p ≡ failed NoMemory)) ⊎ IsJUnitWith files config (book_said files book) names file files' p

-- where no write to the output failed: it gained such a text, and the status is its
abbrev pub EndsJUnit : Directory → Config → BookAsked → (names : List (List ℕ)) → (file : List ℕ) → Directory → (before after : Option (List ℕ)) → (status : ℕ) → Type 0
EndsJUnit files config book names file files' before after status =
    PrintsSome (λ p. IsJUnitCheck files config book names file files' p) before after status
