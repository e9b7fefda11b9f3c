-- What a case is played with that has words of its own: the limits, the settings and the book that these say.
use Rattle.std.specs.Prelude.{◌≡◌, ℕ, ◌+◌, ◌-◌, ◌^◌, Bool, true, false, List, [], ◌∷◌, codes, length, min, nat_lt, if◌then◌else◌, Option, Some, None, Result, Ok, Err}
use Rattle.std.specs.Str.{bytes_eq}
use Rattle.h2_spec.specs.Requests.Answer.{Entry}
use Rattle.h2_spec.specs.declared.connection.Config.{Config}
use Rattle.h2_cmd_book_file.specs.Contents.{beside}
use Rattle.h2_cmd_book_file.specs.Entries.{Directory}
use Rattle.h2_cmd_cases.specs.CaseWords.{before_words, have_idle, with_case_words}
use Rattle.h2_cmd_args.specs.Grammar.{Asked, BookAsked, asked_of, batch, debug, serve, explain, check, against}
use Rattle.h2_cmd_batch.specs.Books.{book_said}
use Rattle.h2_cmd_batch.specs.declared.case_setup.CaseSetup.{CaseSetup}
use Rattle.h2_cmd_batch.specs.declared.case_setup.OwnFault.{OwnFault}
use Rattle.h2_cmd_batch.specs.declared.case_setup.OwnFault.TheVariants.{NoMemory, Refused}

-- the words before those of a case: the program's name, and a command that plays one connection
abbrev pub first_words : List (List ℕ)
first_words = codes "h2_bench" ∷ codes "debug" ∷ []

-- the path of a case's book, from the directory of the case's file; empty where no book is named
abbrev pub book_place : (file book : List ℕ) → List ℕ
book_place file [] = []
book_place file (octet ∷ octets) = beside file (octet ∷ octets)

-- with a book that may be refused
abbrev pub setup_with : Config → Result (List Entry) ℕ → Option CaseSetup
setup_with config (Ok book) = Some (record { config = config; book = book })
setup_with config (Err fault) = None

-- with the book of a case, which is a file, not the standard input
abbrev pub setup_by : Directory → (file : List ℕ) → Config → BookAsked → Option CaseSetup
setup_by files file config book =
    if bytes_eq book.file (codes "-") then None
    else setup_with config (book_said files (record book { file = book_place file book.file }))

-- what words ask for that are parsed
abbrev pub setup_asked : Directory → (file : List ℕ) → Option Asked → Option CaseSetup
setup_asked files file (Some (debug config book)) = setup_by files file config book
setup_asked files file (Some (batch asked)) = None
setup_asked files file (Some (serve config port count watched book)) = None
setup_asked files file (Some (explain config view raw from book)) = None
setup_asked files file (Some (check config book bless in_place junit names)) = None
setup_asked files file (Some (against config book port wait path authority judge junit names)) = None
setup_asked files file None = None

-- what words say, if they are words
abbrev pub setup_said : Directory → (file : List ℕ) → Option (List (List ℕ)) → Option CaseSetup
setup_said files file None = None
setup_said files file (Some words) = setup_asked files file (asked_of words)

-- what the words of a case say, after those before them
abbrev pub setup_worded : Directory → (file : List ℕ) → (lines : List (List ℕ)) → Option CaseSetup
setup_worded files file lines = setup_said files file (with_case_words first_words lines)

-- what the lines of a case say, unless they have words without effect in a case
abbrev pub setup_unless : Bool → Directory → (file : List ℕ) → (lines : List (List ℕ)) → Option CaseSetup
setup_unless true files file lines = None
setup_unless false files file lines = setup_worded files file lines

abbrev pub setup_of : Directory → (file : List ℕ) → (lines : List (List ℕ)) → Option CaseSetup
setup_of files file lines = setup_unless (have_idle lines) files file lines

-- the number of the first line that has words, where the first line of the lines has this number; that of the first line
-- where none has words
abbrev pub words_line : (number : ℕ) → (lines : List (List ℕ)) → ℕ
words_line number lines = if nat_lt (before_words lines) (length lines) then min (number + before_words lines) (2 ^ 64 - 1) else number

-- words that are refused say nothing, unless the cause is that memory ran out
abbrev pub RefusesSetup : Option CaseSetup → OwnFault → Type 0
RefusesSetup setup NoMemory = Unit {0}
RefusesSetup setup (Refused words) = setup ≡ None
