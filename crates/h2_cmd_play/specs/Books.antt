-- A book of the answers that words say.
use Rattle.std.specs.Prelude.{ℕ, List, [], ◌∷◌, ◌++◌, Option, Some, None, Result, Ok, Err}
use Rattle.h2_spec.specs.Requests.Answer.{Entry}
use Rattle.h2_spec.specs.Requests.AnswerWords.{entry_of}
use Rattle.h2_spec.specs.Requests.Book.{entry_fault}
use Rattle.h2_cmd_play.specs.Faults.{fault_number}
use Rattle.h2_cmd_play.specs.declared.fault.AnswerFault.TheVariants.{BadAnswer}

-- an entry is last, unless the book refuses it
abbrev pub added : List Entry → Entry → Option ℕ → Result (List Entry) ℕ
added book entry (Some fault) = Err fault
added book entry None = Ok (book ++ entry ∷ [])

-- the entry that a word says is added
abbrev pub added_by : List Entry → Option Entry → Result (List Entry) ℕ
added_by book None = Err (fault_number BadAnswer)
added_by book (Some entry) = added book entry (entry_fault book entry)

-- one word
unfoldable pub with_answer : List Entry → List ℕ → Result (List Entry) ℕ
unfolding entry_of entry_fault
with_answer book word = added_by book (entry_of word)

-- unless a word before was refused
abbrev pub unless_refused : Result (List Entry) ℕ → (List Entry → Result (List Entry) ℕ) → Result (List Entry) ℕ
unless_refused (Ok book) next = next book
unless_refused (Err fault) next = Err fault

-- word after word from the left; the first one that is refused decides
unfoldable pub book_of : List Entry → List (List ℕ) → Result (List Entry) ℕ
unfolding with_answer
book_of book [] = Ok book
book_of book (word ∷ words) = unless_refused (with_answer book word) (λ more. book_of more words)
