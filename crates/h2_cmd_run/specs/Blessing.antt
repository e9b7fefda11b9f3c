-- The cases of a file written anew, and what `check --bless` leaves in files and in the output.
use Rattle.std.specs.Prelude.{◌≡◌, ◌⊎◌, ◌++◌, ℕ, ◌-◌, Bool, true, false, not, List, [], ◌∷◌, flat_map, length, take, Option, Some, None, Ok}
use Rattle.std.specs.Io.KnownBytes.{Appends}
use Rattle.h2_spec.specs.Requests.Answer.{Entry}
use Rattle.h2_spec.specs.Texts.Script.{lines_of}
use Rattle.h2_spec.specs.State.{is_allowed}
use Rattle.h2_spec.specs.declared.connection.Config.{Config}
use Rattle.h2_cmd_book_file.specs.Entries.{Directory}
use Rattle.h2_cmd_book_file.specs.Files.{Replaces}
use Rattle.h2_cmd_cases.specs.CaseWords.{have_words}
use Rattle.h2_cmd_cases.specs.Files.{cases_in, preamble_length}
use Rattle.h2_cmd_check.specs.Blessed.{blessed, kept_line}
use Rattle.h2_cmd_check.specs.Frames.{is_none}
use Rattle.h2_cmd_args.specs.Grammar.{Asked, BookAsked, against, batch, check, debug, explain, serve}
use Rattle.h2_cmd_batch.specs.Books.{book_said}
use Rattle.h2_cmd_batch.specs.declared.case_setup.CaseSetup.{CaseSetup}
use Rattle.h2_cmd_run.specs.CheckProgram.{setup_for}

-- lines as they are, each with a line feed
abbrev pub kept_lines : List (List ℕ) → List ℕ
kept_lines lines = flat_map kept_line lines

-- a case stays as it is where its limits or its settings are out of range
abbrev pub blessed_if : (allowed : Bool) → List Entry → Config → List (List ℕ) → List ℕ
blessed_if true book config lines = blessed book config lines
blessed_if false book config lines = kept_lines lines

abbrev pub blessed_with : List Entry → Config → List (List ℕ) → List ℕ
blessed_with book config lines = blessed_if (is_allowed config) book config lines

-- and where its words are refused
abbrev pub blessed_on : Option CaseSetup → List (List ℕ) → List ℕ
blessed_on None lines = kept_lines lines
blessed_on (Some setup) lines = blessed_with setup.book setup.config lines

-- a case of a file, written anew
abbrev pub blessed_case : Directory → CaseSetup → (file : List ℕ) → List (List ℕ) → List ℕ
blessed_case files common file lines = blessed_on (setup_for (have_words lines) files common file lines) lines

-- the lines of a file, each with a line feed: those in front of the first case stay
abbrev pub blessed_lines : Directory → CaseSetup → (file : List ℕ) → List (List ℕ) → List ℕ
blessed_lines files common file lines =
    kept_lines (take (preamble_length lines) lines) ++ flat_map (blessed_case files common file) (cases_in lines)

-- without the last octet
abbrev pub without_last : List ℕ → List ℕ
without_last text = take (length text - 1) text

-- the text of a file, written anew: its last line has no line feed
abbrev pub blessed_file : Directory → CaseSetup → (file : List ℕ) → List ℕ → List ℕ
blessed_file files common file octets = without_last (blessed_lines files common file (lines_of octets))

-- octets were written to a file; where that was cut short, they may not have been
abbrev pub ReplacesOrNot : (cut : Bool) → Directory → (file : List ℕ) → List ℕ → Directory → Type 0
ReplacesOrNot false files file octets files' = Replaces files file octets files'
ReplacesOrNot true files file octets files' = (files' ≡ files) ⊎ Replaces files file octets files'

-- a file was written anew in place, and all others are as they were; where that was cut short, it may be as it was
abbrev pub BlessesFile : (cut : Bool) → CaseSetup → Directory → (file : List ℕ) → Directory → Type 0
BlessesFile false common files file files' =
    (octets : List ℕ) × (files file ≡ Some octets) × Replaces files file (blessed_file files common file octets) files'
BlessesFile true common files file files' =
    (files' ≡ files) ⊎ ((octets : List ℕ) × (files file ≡ Some octets) × Replaces files file (blessed_file files common file octets) files')

-- the same of files, one after another
abbrev pub BlessesFiles : (cut : Bool) → CaseSetup → Directory → List (List ℕ) → Directory → Type 0
BlessesFiles cut common files [] files' = files' ≡ files
BlessesFiles cut common files (name ∷ names) files' =
    (between : Directory) × BlessesFile cut common files name between × BlessesFiles cut common between names files'

-- the output gained the text of a file, written anew
abbrev pub PrintsFile : CaseSetup → Directory → (file : List ℕ) → (before after : Option (List ℕ)) → Type 0
PrintsFile common files file before after =
    (octets : List ℕ) × (files file ≡ Some octets) × Appends before after (blessed_file files common file octets)

-- the same of files, one after another
abbrev pub PrintsFiles : CaseSetup → Directory → List (List ℕ) → (before after : Option (List ℕ)) → Type 0
PrintsFiles common files [] before after = after ≡ before
PrintsFiles common files (name ∷ names) before after =
    (between : Option (List ℕ)) × PrintsFile common files name before between × PrintsFiles common files names between after

-- files are written anew: in place, and each is where the status is 0; or to the output, and files are as they were
abbrev pub Blesses : CaseSetup → Directory → (in_place : Bool) → List (List ℕ) → Directory → (before after : Option (List ℕ)) → (status : ℕ) → Type 0
Blesses common files true names files' before after status =
    BlessesFiles true common files names files' × (status ≡ 0 → BlessesFiles false common files names files')
Blesses common files false names files' before after status =
    (files' ≡ files) × (status ≡ 0 → PrintsFiles common files names before after)

-- with the book that the words name; or nothing is written, as that was refused
abbrev pub EndsBless : Directory → Config → BookAsked → (in_place : Bool) → List (List ℕ) → Directory → (before after : Option (List ℕ)) → (status : ℕ) → Type 0
EndsBless files config book in_place names files' before after status =
    ((files' ≡ files) × (status ≡ 0 → ⊥))
    ⊎ ((entries : List Entry) × (book_said files book ≡ Ok entries) × Blesses (record { config = config; book = entries }) files in_place names files' before after status)

-- whether `check` writes files: cases anew and in place, or without `--bless` the results to a file
abbrev pub writes_for : (bless in_place : Bool) → (junit : List ℕ) → Bool
writes_for true in_place junit = in_place
writes_for false in_place junit = not (is_none junit)

-- whether words ask for files to be written
abbrev pub writes_files : Option Asked → Bool
writes_files None = false
writes_files (Some (batch b)) = false
writes_files (Some (debug config book)) = false
writes_files (Some (serve config port count watched book)) = false
writes_files (Some (explain config view raw file book)) = false
writes_files (Some (check config book bless in_place junit names)) = writes_for bless in_place junit
writes_files (Some (against config book port wait path authority judge junit names)) = false
