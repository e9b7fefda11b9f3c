-- The book of answers: its file, then word after word.
use Rattle.std.proofs.Common.{◌≡◌, ◌==◌, ◌<◌, ◌∙◌, ℕ, Bool, true, false, List, [], ◌∷◌, Result, Ok, Err, inl, inr, ◌⊎◌, refl, ap, sym, subst, arith, length, eqb-true, true≢false, lit<}
use Rattle.h2_spec.specs.Requests.Answer.{Entry}
use Rattle.h2_cmd_book_file.specs.Entries.{Directory, book_of_file}
use Rattle.h2_cmd_args.specs.Grammar.{BookAsked}
use Rattle.h2_cmd_batch.specs.Books.{book_filed, book_said}
use Rattle.h2_cmd_play.specs.Books.{book_of, unless_refused}
use Rattle.h2_cmd_play.specs.Faults as answers
use Rattle.h2_cmd_play.specs.declared.fault.AnswerFault.{AnswerFault}
use Rattle.h2_cmd_play.specs.declared.fault.AnswerFault.TheVariants as answer
use Rattle.h2_cmd_batch.specs.Answers.{fault_told}
use Rattle.h2_cmd_batch.specs.CommandEnd.{KnowsFile}
use Rattle.h2_cmd_batch.specs.Faults.{fault_number}
use Rattle.h2_request_book.specs.declared.fault.EntryFault.TheVariants.{BadStatus, BadField, BodyNotAllowed, TooLong}
use Rattle.h2_cmd_batch.specs.declared.fault.BenchFault.{BenchFault}
use Rattle.h2_cmd_batch.specs.declared.fault.BenchFault.TheVariants.{NoMemory, BadEntry, BadConfig, Read, Write, BadHex, BadAnswer, BadCommand, Socket}

-- a word that is refused is refused with the fault of the commands
told-number : (fault : AnswerFault) → fault_number (fault_told fault) ≡ answers.fault_number fault
told-number answer.NoMemory = refl
told-number answer.BadAnswer = refl
told-number (answer.BadEntry fault) = refl

pub word-told : (r : Result (List Entry) ℕ) (fault : AnswerFault) (as_told : BenchFault) → as_told ≡ fault_told fault → (fault ≡ answer.NoMemory) ⊎ (r ≡ Err (answers.fault_number fault))
    → (as_told ≡ NoMemory) ⊎ (r ≡ Err (fault_number as_told))
word-told r fault as_told is (inl memory) = inl (is ∙ ap fault_told memory)
word-told r fault as_told is (inr refused) = inr (refused ∙ ap (λ (n : ℕ). let e : Result (List Entry) ℕ = Err n in e) (sym (ap fault_number is ∙ told-number fault)))

-- an empty path is no file
pub no-file : (files : Directory) (path : List ℕ) (book : List Entry) → (length path == 0) ≡ true → book ≡ [] → book_filed files path ≡ Ok book
unfolding book_filed
no-file files [] book e b = rw b refl
no-file files (octet ∷ octets) book e b =
    let none : length (octet ∷ octets) ≡ 0 = eqb-true (length (octet ∷ octets)) 0 e in
    let bad : ⊥ = omega arith in
    absurd bad

pub some-file : (files : Directory) (path : List ℕ) → (length path == 0) ≡ false → book_filed files path ≡ book_of_file files path []
unfolding book_filed
some-file files [] e = absurd (true≢false e)
some-file files (octet ∷ octets) e = refl

pub known-file : (path : List ℕ) (is_printed : Bool) → KnowsFile path is_printed → (length path == 0) ≡ false → is_printed ≡ true
known-file path is_printed (inl none) e = absurd (true≢false (subst (λ (p : List ℕ). (length p == 0) ≡ false) none e))
known-file path is_printed (inr printed) e = printed

-- a file is added to no entries, or refused
pub file-added : (files : Directory) (path : List ℕ) (is_printed : Bool) (book after : List Entry) → (length path == 0) ≡ false → book ≡ [] → KnowsFile path is_printed
    → (is_printed ≡ true → book_of_file files path book ≡ Ok after) → book_filed files path ≡ Ok after
file-added files path is_printed book after e none known added =
    some-file files path e ∙ subst (λ (b : List Entry). book_of_file files path b ≡ Ok after) none (added (known-file path is_printed known e))

pub file-not-added : (files : Directory) (path : List ℕ) (is_printed : Bool) (book : List Entry) (fault : ℕ) → (length path == 0) ≡ false → book ≡ [] → KnowsFile path is_printed
    → (is_printed ≡ true → 0 < fault → book_of_file files path book ≡ Err fault) → 0 < fault → book_filed files path ≡ Err fault
file-not-added files path is_printed book fault e none known refused above =
    some-file files path e ∙ subst (λ (b : List Entry). book_of_file files path b ≡ Err fault) none (refused (known-file path is_printed known e) above)

-- a fault that is not 0 is not for memory
pub memory-or-number : (fault : BenchFault) → (fault ≡ NoMemory) ⊎ (0 < fault_number fault)
memory-or-number NoMemory = inl refl
memory-or-number (BadEntry BadStatus) = inr (lit< tt)
memory-or-number (BadEntry BadField) = inr (lit< tt)
memory-or-number (BadEntry BodyNotAllowed) = inr (lit< tt)
memory-or-number (BadEntry TooLong) = inr (lit< tt)
memory-or-number BadConfig = inr (lit< tt)
memory-or-number Read = inr (lit< tt)
memory-or-number Write = inr (lit< tt)
memory-or-number BadHex = inr (lit< tt)
memory-or-number BadAnswer = inr (lit< tt)
memory-or-number BadCommand = inr (lit< tt)
memory-or-number Socket = inr (lit< tt)

-- a refused file refuses the book
pub file-refused : (files : Directory) (book : BookAsked) (n : ℕ) (fault : BenchFault) → fault_number fault ≡ n → (0 < n → book_filed files book.file ≡ Err n)
    → (fault ≡ NoMemory) ⊎ (book_said files book ≡ Err (fault_number fault))
file-refused files book n fault number refused = elim (memory-or-number fault) [
  | inl memory ↦ inl memory
  | inr above ↦ inr (ap (λ (r : Result (List Entry) ℕ). unless_refused r (λ entries. book_of entries book.answers)) (refused (subst (λ (m : ℕ). 0 < m) number above))
      ∙ ap (λ (m : ℕ). let r : Result (List Entry) ℕ = Err m in r) (sym number))
]

-- the words come after the file
pub file-taken : (files : Directory) (book : BookAsked) (entries : List Entry) (r : Result (List Entry) ℕ) → book_filed files book.file ≡ Ok entries → book_of entries book.answers ≡ r
    → book_said files book ≡ r
file-taken files book entries r filed words = rw filed words
