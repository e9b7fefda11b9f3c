-- How a run of a command ends, where the devices report their octets: what is reported, by which of their calls failed.
use Rattle.std.specs.Prelude.{◌≡◌, ◌⊎◌, ◌++◌, ℕ, Bool, true, false, List, [], Option, Some, None, Result, Ok, Err}
use Rattle.h2_spec.specs.Requests.Answer.{Entry}
use Rattle.h2_cmd_book_file.specs.Entries.{Directory}
use Rattle.h2_cmd_args.specs.Grammar.{BatchAsked, play, asm, dis, table}
use Rattle.h2_cmd_batch.specs.Books.{book_in}
use Rattle.h2_cmd_batch.specs.Printed.{OrCutShort, Printed, failed, places_read, refused, printed_read}
use Rattle.h2_cmd_batch.specs.declared.fault.BenchFault.TheVariants.{NoMemory, Read}

-- a read failed, or the input is known and this is what is reported for it; where memory is refused, some first
-- places of it and then that fault
abbrev pub AnswersInput : List Entry → BatchAsked → Option (List ℕ) → Bool → Printed → Type 0
AnswersInput book asked input input_failed t = ((input_failed ≡ true) × (t ≡ failed Read))
    ⊎ ((input_failed ≡ false) × ((octets : List ℕ) → input ≡ Some octets → OrCutShort (places_read book asked octets) (printed_read book asked octets) t))

-- the same, or memory was refused before anything was written, and no read failed
abbrev pub AnswersBook : List Entry → BatchAsked → Option (List ℕ) → Bool → Printed → Type 0
AnswersBook book asked input input_failed t = ((t ≡ failed NoMemory) × (input_failed ≡ false)) ⊎ AnswersInput book asked input input_failed t

-- the fault of the book is found before anything is read
abbrev pub AnswersAs : Result (List Entry) ℕ → BatchAsked → Option (List ℕ) → Bool → Printed → Type 0
AnswersAs (Err fault) asked input input_failed t = t ≡ refused fault
AnswersAs (Ok book) asked input input_failed t = AnswersInput book asked input input_failed t

-- memory was refused before anything was written, and no read failed; or this is the answer. So where a read failed,
-- `fault 22` is all that is reported
abbrev pub RespondsWith : Directory → BatchAsked → Option (List ℕ) → Bool → Printed → Type 0
RespondsWith files asked input input_failed t = ((t ≡ failed NoMemory) × (input_failed ≡ false)) ⊎ AnswersAs (book_in files asked) asked input input_failed t

-- the output gained the text, and the status is its
abbrev pub Prints : Printed → List ℕ → Option (List ℕ) → ℕ → Type 0
Prints t before after status = (after ≡ Some (before ++ t.text)) × (status ≡ t.status)

-- the same of some such answer
abbrev pub PrintsSome : (Printed → Type 0) → Option (List ℕ) → Option (List ℕ) → ℕ → Type 0
PrintsSome is_such before after status = (held : List ℕ) → before ≡ Some held → (t : Printed) × is_such t × Prints t held after status

-- where no write failed: such an answer
abbrev pub EndsBatch : Directory → BatchAsked → Option (List ℕ) → Bool → Option (List ℕ) → Option (List ℕ) → ℕ → Type 0
EndsBatch files asked input input_failed before after status = PrintsSome (λ t. RespondsWith files asked input input_failed t) before after status

-- ---- files

-- the path of the book's file; empty where there is none
abbrev pub file_of : BatchAsked → List ℕ
file_of (play config cut each raw book) = book.file
file_of (asm why) = []
file_of (dis raw why) = []
file_of (table limit why) = []

-- no file is needed, or the device reports its files
abbrev pub KnowsFile : List ℕ → Bool → Type 0
KnowsFile file is_printed = (file ≡ []) ⊎ (is_printed ≡ true)

-- there are no files
abbrev pub no_files : Directory
no_files path = None

-- whether words ask for the reason where something is refused
abbrev pub asks_why_batch : BatchAsked → Bool
asks_why_batch (play config cut each raw book) = book.why
asks_why_batch (asm why) = why
asks_why_batch (dis raw why) = why
asks_why_batch (table limit why) = why
