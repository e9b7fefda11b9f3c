-- The book that a file says: its entries in their order, or the number of the first fault.
use Rattle.std.specs.Prelude.{◌≡◌, ℕ, ◌<◌, Bool, List, [], ◌∷◌, ◌++◌, length, codes, bytes_eq, nat_lt, if◌then◌else◌, Option, Some, None, Result, Ok, Err}
use Rattle.std.specs.Option.{option_and_then}
use Rattle.std.specs.Str.{is_utf8}
use Rattle.toml.specs.Parse.{parse_document}
use Rattle.toml.specs.Data.{Data, Items, no_items, item, Members, as_array, as_table, get_member}
pub use Rattle.h2_io.specs.Limit.{most}
use Rattle.h2_spec.specs.Requests.Answer.{Entry, answer}
use Rattle.h2_spec.specs.Requests.Book.{entry_fault}
use Rattle.h2_cmd_book_file.specs.Contents.{octets_of}
use Rattle.h2_cmd_book_file.specs.AnswerTable.{AnswerTable, said_of, has_other_key}
use Rattle.h2_cmd_book_file.specs.Faults.{cause_number}
use Rattle.h2_cmd_book_file.specs.declared.fault.BookRefusal.{BookRefusal}

-- the files of a directory: the octets at each path, or none where there is no file that can be read
abbrev pub Directory : Type 0
Directory = List ℕ → Option (List ℕ)

-- the entry of an answer, where its body has octets
abbrev pub entry_with : AnswerTable → Result (List ℕ) ℕ → Result Entry ℕ
entry_with s (Ok body) = Ok (record { method = s.method; path = s.path; answer = record (answer s.status s.fields body) { early = s.early } })
entry_with s (Err fault) = Err fault

-- the entry that an answer says; one that is malformed is fault 26
abbrev pub entry_said : Directory → List ℕ → Option AnswerTable → Result Entry ℕ
entry_said directory path None = Err 26
entry_said directory path (Some s) = entry_with s (octets_of directory path s.body)

-- the entry that a value says; one that is no table is fault 26
abbrev pub entry_of : Directory → List ℕ → Data → Result Entry ℕ
entry_of directory path d = entry_said directory path (option_and_then said_of (as_table d))

-- the entry is last in the book, unless the book refuses it
abbrev pub added : List Entry → Entry → Option ℕ → Result (List Entry) ℕ
added book entry (Some fault) = Err fault
added book entry None = Ok (book ++ entry ∷ [])

abbrev pub with_entry : List Entry → Result Entry ℕ → Result (List Entry) ℕ
with_entry book (Ok entry) = added book entry (entry_fault book entry)
with_entry book (Err fault) = Err fault

-- what comes next, unless there was a fault
abbrev pub unless_refused : Result (List Entry) ℕ → (List Entry → Result (List Entry) ℕ) → Result (List Entry) ℕ
unless_refused (Ok book) next = next book
unless_refused (Err fault) next = Err fault

-- answer after answer in the order of the file; the first one that is refused decides
abbrev pub book_with : Directory → List ℕ → List Entry → Items → Result (List Entry) ℕ
book_with directory path book no_items = Ok book
book_with directory path book (item d ds) = unless_refused (with_entry book (entry_of directory path d)) (λ more. book_with directory path more ds)

-- the one key of a document
abbrev pub is_key_of_document : List ℕ → Bool
is_key_of_document k = bytes_eq k (codes "answer")

-- the array of a document: without the key it's empty
abbrev pub array_said : Option Data → Option Items
array_said None = Some no_items
array_said (Some d) = as_array d

-- the answers of a document
abbrev pub answers_of : Members → Option Items
answers_of ms = if has_other_key is_key_of_document ms then None else array_said (get_member (codes "answer") ms)

abbrev pub book_of_answers : Directory → List ℕ → List Entry → Option Items → Result (List Entry) ℕ
book_of_answers directory path book None = Err 26
book_of_answers directory path book (Some ds) = book_with directory path book ds

-- the book with the entries of a document after its own; a text that is no document is fault 26
abbrev pub book_of_document : Directory → List ℕ → List Entry → Option Members → Result (List Entry) ℕ
book_of_document directory path book None = Err 26
book_of_document directory path book (Some ms) = book_of_answers directory path book (answers_of ms)

-- the document that octets are: UTF-8 that is TOML
abbrev pub document_in : List ℕ → Option Members
document_in octets = if is_utf8 octets then parse_document octets else None

-- the book with the entries of a file after its own; a file that can't be read, or is too long, is fault 22
abbrev pub book_of_octets : Directory → List ℕ → List Entry → Option (List ℕ) → Result (List Entry) ℕ
book_of_octets directory path book None = Err 22
book_of_octets directory path book (Some octets) =
    if nat_lt most (length octets) then Err 22 else book_of_document directory path book (document_in octets)

abbrev pub book_of_file : Directory → List ℕ → List Entry → Result (List Entry) ℕ
book_of_file directory path book = book_of_octets directory path book (directory path)

-- ---- the entries alone

-- an entry before others, where each is said
abbrev pub before : Result Entry ℕ → Result (List Entry) ℕ → Result (List Entry) ℕ
before (Ok entry) (Ok entries) = Ok (entry ∷ entries)
before (Ok entry) (Err fault) = Err fault
before (Err fault) entries = Err fault

-- the entries that answers say, each by itself and in their order
abbrev pub entries_of : Directory → List ℕ → Items → Result (List Entry) ℕ
entries_of directory path no_items = Ok []
entries_of directory path (item d ds) = before (entry_of directory path d) (entries_of directory path ds)

-- the answers of a file, where it has some
abbrev pub answers_in_octets : Option (List ℕ) → Option Items
answers_in_octets octets = option_and_then answers_of (option_and_then document_in octets)

-- the new book is the old one, and after it the entry of each answer of the file, in their order
abbrev pub Appended : Directory → List ℕ → List Entry → List Entry → Type 0
Appended directory path old new =
    (answers : Items) × (entries : List Entry) × (answers_in_octets (directory path) ≡ Some answers) × (entries_of directory path answers ≡ Ok entries) × (new ≡ old ++ entries)

-- ---- what a function reports

-- it is what the definition says; out of memory, fault 0, may come before
abbrev pub Agrees : {X S : Type 0} → (X → S) → Result X BookRefusal → Result S ℕ → Type 0
Agrees view (Ok x) said = said ≡ Ok (view x)
Agrees view (Err cause) said = 0 < cause_number cause → said ≡ Err (cause_number cause)
