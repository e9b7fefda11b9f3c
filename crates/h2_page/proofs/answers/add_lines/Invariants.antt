use Rattle.std.proofs.Common.{◌≡◌, drop, map}
use Rattle.h2_cmd_play.specs.Books.{book_of}
use Rattle.h2_page.proofs.answers.add_lines.Given as goal

abbrev pub invariant-loop-before : goal.invariant-loop-before
invariant-loop-before g l = book_of l.book (map (λ s. s.now) (drop l.before l.lines)) ≡ book_of l.fn.book (map (λ s. s.now) l.lines)
