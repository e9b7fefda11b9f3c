use Rattle.std.proofs.Common.{◌≡◌, ◌∙◌, ap}
use Rattle.h2_request_book.specs.Lent.{body_frame_of_answer}
use Rattle.h2_request_book.proofs.BookLaws.{picked-there, picked-past}
use Rattle.h2_request_book.proofs.book.Book.body_frame_at.Goals as goal

pub returns-in-Some : goal.returns-in-Some
returns-in-Some g c =
    let same : c.deref.result.now ≡ c.args.self.now = c.deref.ensures.value ∙ c.self.view_is in
    let found = c.in-Some.ensures.lookup in
    c.body_frame_of.ensures ∙ ap body_frame_of_answer (picked-there c.deref.result.now c.args.self.now c.args.place c.in-Some.stored.now same found.0 found.1)

pub returns-in-None : goal.returns-in-None
returns-in-None g c =
    let same : c.deref.result.now ≡ c.args.self.now = c.deref.ensures.value ∙ c.self.view_is in
    c.frame_of_nothing.ensures ∙ ap body_frame_of_answer (picked-past c.deref.result.now c.args.self.now c.args.place same c.in-None.ensures.lookup.0)
