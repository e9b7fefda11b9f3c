use Rattle.std.proofs.Common.{◌≡◌, ◌∙◌}
use Rattle.h2_request_book.proofs.BookLaws.{picked-there, picked-past}
use Rattle.h2_request_book.proofs.book.Book.answer_at.Goals as goal

pub returns-in-Some : goal.returns-in-Some
returns-in-Some g c =
    let same : c.deref.result.now ≡ c.args.self.now = c.deref.ensures.value ∙ c.self.view_is in
    let found = c.in-Some.ensures.lookup in
    c.answer_of.ensures ∙ picked-there c.deref.result.now c.args.self.now c.args.place c.in-Some.stored.now same found.0 found.1

pub returns-in-None : goal.returns-in-None
returns-in-None g c =
    let same : c.deref.result.now ≡ c.args.self.now = c.deref.ensures.value ∙ c.self.view_is in
    c.bare.ensures ∙ picked-past c.deref.result.now c.args.self.now c.args.place same c.in-None.ensures.lookup.0
