-- A book of a file is the old book and, after it, the entry of each answer.
use Rattle.std.proofs.Common.{◌≡◌, ◌∙◌, ℕ, Bool, true, false, List, [], ◌∷◌, ◌++◌, Option, Some, None, Result, Ok, Err, length, nat_lt, if◌then◌else◌, option_and_then, refl, ap, sym, append_assoc, append-nil}
use Rattle.toml.specs.Data.{Data, Items, no_items, item, Members}
use Rattle.h2_spec.specs.Requests.Answer.{Entry}
use Rattle.h2_spec.specs.Requests.Book.{entry_fault}
use Rattle.h2_cmd_book_file.specs.Entries.{Directory, Appended, added, answers_of, book_with, book_of_answers, book_of_document, book_of_file, book_of_octets, document_in, entries_of, entry_of, most, unless_refused, with_entry}

-- entries of answers after a book
abbrev pub Extends : Directory → List ℕ → List Entry → List Entry → Items → Type 0
Extends directory path old new ds = (entries : List Entry) × (entries_of directory path ds ≡ Ok entries) × (new ≡ old ++ entries)

pub book_with-extends : (directory : Directory) (path : List ℕ) (ds : Items) (old new : List Entry) → book_with directory path old ds ≡ Ok new → Extends directory path old new ds
book_with-extends directory path no_items old new e =
    let same : old ≡ new = cc in
    ([], refl, sym same ∙ sym (append-nil old))
book_with-extends directory path (item d ds) old new e = said (entry_of directory path d) (λ book. book_with-extends directory path ds book new) refl e
  where
    fits : (entry : Entry) (o : Option ℕ) → ((book : List Entry) → book_with directory path book ds ≡ Ok new → Extends directory path book new ds)
        → entry_of directory path d ≡ Ok entry → unless_refused (added old entry o) (λ more. book_with directory path more ds) ≡ Ok new
        → Extends directory path old new (item d ds)
    fits entry (Some n) more s e = cc
    fits entry None more s e =
        let rest = more (old ++ entry ∷ []) e in
        (entry ∷ rest.0, rw (s, rest.1) refl, rest.2 ∙ append_assoc old (entry ∷ []) rest.0)

    said : (r : Result Entry ℕ) → ((book : List Entry) → book_with directory path book ds ≡ Ok new → Extends directory path book new ds)
        → entry_of directory path d ≡ r → unless_refused (with_entry old r) (λ more. book_with directory path more ds) ≡ Ok new
        → Extends directory path old new (item d ds)
    said (Err n) more s e = cc
    said (Ok entry) more s e = fits entry (entry_fault old entry) more s e

pub book_of_file-appends : (directory : Directory) (path : List ℕ) (old new : List Entry) → book_of_file directory path old ≡ Ok new → Appended directory path old new
book_of_file-appends directory path old new e = in_file (directory path) refl e
  where
    in_answers : (o : Option Items) → option_and_then answers_of (option_and_then document_in (directory path)) ≡ o → book_of_answers directory path old o ≡ Ok new → Appended directory path old new
    in_answers None s e = cc
    in_answers (Some ds) s e =
        let rest = book_with-extends directory path ds old new e in
        (ds, rest.0, s, rest.1, rest.2)

    in_document : (o : Option Members) → option_and_then document_in (directory path) ≡ o → book_of_document directory path old o ≡ Ok new → Appended directory path old new
    in_document None s e = cc
    in_document (Some ms) s e = in_answers (answers_of ms) (rw s refl) e

    in_octets : (octets : List ℕ) (long : Bool) → directory path ≡ Some octets → (if long then Err 22 else book_of_document directory path old (document_in octets)) ≡ Ok new → Appended directory path old new
    in_octets octets true s e = cc
    in_octets octets false s e = in_document (document_in octets) (rw s refl) e

    in_file : (o : Option (List ℕ)) → directory path ≡ o → book_of_octets directory path old o ≡ Ok new → Appended directory path old new
    in_file None s e = cc
    in_file (Some octets) s e = in_octets octets (nat_lt most (length octets)) s e

-- ---- one answer after another

-- an answer that is refused ends it
pub book_with-refused : (directory : Directory) (path : List ℕ) (book : List Entry) (d : Data) (ds : Items) (fault : ℕ) → with_entry book (entry_of directory path d) ≡ Err fault →
    book_with directory path book (item d ds) ≡ Err fault
book_with-refused directory path book d ds fault e = ap (λ (r : Result (List Entry) ℕ). unless_refused r (λ more. book_with directory path more ds)) e

-- else it goes on with the entry after the others
pub book_with-next : (directory : Directory) (path : List ℕ) (book new : List Entry) (d : Data) (ds : Items) → with_entry book (entry_of directory path d) ≡ Ok new →
    book_with directory path book (item d ds) ≡ book_with directory path new ds
book_with-next directory path book new d ds e = ap (λ (r : Result (List Entry) ℕ). unless_refused r (λ more. book_with directory path more ds)) e
