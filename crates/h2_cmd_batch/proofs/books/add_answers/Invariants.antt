use Rattle.std.proofs.Common.{◌≡◌, drop, map}
use Rattle.h2_cmd_play.specs.Books.{book_of}
use Rattle.h2_cmd_batch.proofs.books.add_answers.Given as goal

abbrev pub invariant-loop-before : goal.invariant-loop-before
invariant-loop-before l = book_of l.book (map (λ s. s.now) (drop l.before l.words)) ≡ book_of l.fn.book (map (λ s. s.now) l.words)
