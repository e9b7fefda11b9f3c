use Rattle.std.proofs.Common.{◌∙◌, Bor, List, ℕ, map, sym}
use Rattle.std.proofs.lemmas.List.{at_drop_all}
use Rattle.h2_cmd_play.specs.Books.{book_of}
use Rattle.h2_page.proofs.answers.add_lines.Goals as goal

pub returns-clause-ok : goal.returns-clause-ok
unfolding book_of
returns-clause-ok g c =
    sym c.loop-before.invariant
    ∙ at_drop_all (λ (words : List (Bor (List ℕ))). book_of c.loop-before.book (map (λ s. s.now) words)) c.args.lines.now c.loop-before.before c.loop-before-test.false
