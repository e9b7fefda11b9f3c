use Rattle.std.proofs.Common.{◌∙◌, ap, position, sym}
use Rattle.h2_request_book.specs.Firsts.{is_for}
use Rattle.h2_request_book.proofs.FirstLaws.{firsts-kept}
use Rattle.h2_request_book.proofs.book.Book.truncate.Goals as goal

pub invariant_of-self : goal.invariant_of-self
invariant_of-self g c = λ key.
    firsts-kept c.self.inside.firsts c.truncate.new.self c.self.inside.entries.items c.args.count c.self.invariant c.truncate.ensures key ∙ ap (position (is_for key)) (sym c.truncate-2.ensures.items)
