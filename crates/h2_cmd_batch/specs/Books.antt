-- The book of answers of a command: the entries of a file, and after them those of the words.
use Rattle.std.specs.Prelude.{ℕ, List, [], ◌∷◌, Result, Ok}
use Rattle.h2_spec.specs.Requests.Answer.{Entry}
pub use Rattle.h2_cmd_play.specs.Books.{book_of, unless_refused}
use Rattle.h2_cmd_book_file.specs.Entries.{Directory, book_of_file}
use Rattle.h2_cmd_args.specs.Grammar.{BatchAsked, BookAsked, play, asm, dis, table}

-- the entries of a file; none where its path is empty
unfoldable pub book_filed : Directory → List ℕ → Result (List Entry) ℕ
book_filed files [] = Ok []
book_filed files (octet ∷ octets) = book_of_file files (octet ∷ octets) []

-- the entries of the file come first, then those of the words
abbrev pub book_said : Directory → BookAsked → Result (List Entry) ℕ
book_said files book = unless_refused (book_filed files book.file) (λ entries. book_of entries book.answers)

-- the book of a command
abbrev pub book_in : Directory → BatchAsked → Result (List Entry) ℕ
book_in files (play config cut each raw book) = book_said files book
book_in files (asm why) = Ok []
book_in files (dis raw why) = Ok []
book_in files (table limit why) = Ok []
