use Rattle.std.proofs.Common.{◌≡◌, ◌≤◌, ◌∙◌, length, ap, subst}
use Rattle.h2_spec.specs.Requests.Answer.{Answer}
use Rattle.h2_request_book.specs.Lent.{block_of_answer, headers_of_answer}
use Rattle.h2_request_book.proofs.BookLaws.{picked-there, picked-past}
use Rattle.h2_request_book.proofs.book.Book.headers_at.Goals as goal

pub returns-in-Some-clause-headers : goal.returns-in-Some-clause-headers
returns-in-Some-clause-headers g c =
    let same : c.deref.result.now ≡ c.args.self.now = c.deref.ensures.value ∙ c.self.view_is in
    let found = c.in-Some.ensures.lookup in
    c.headers_of.ensures.headers ∙ ap headers_of_answer (picked-there c.deref.result.now c.args.self.now c.args.place c.in-Some.stored.now same found.0 found.1)

pub returns-in-Some-clause-within : goal.returns-in-Some-clause-within
returns-in-Some-clause-within g c =
    let same : c.deref.result.now ≡ c.args.self.now = c.deref.ensures.value ∙ c.self.view_is in
    let found = c.in-Some.ensures.lookup in
    subst (λ (a : Answer). length (block_of_answer a) ≤ 16383) (picked-there c.deref.result.now c.args.self.now c.args.place c.in-Some.stored.now same found.0 found.1) c.headers_of.ensures.within

pub returns-in-None-clause-headers : goal.returns-in-None-clause-headers
returns-in-None-clause-headers g c =
    let same : c.deref.result.now ≡ c.args.self.now = c.deref.ensures.value ∙ c.self.view_is in
    c.headers_404.ensures.headers ∙ ap headers_of_answer (picked-past c.deref.result.now c.args.self.now c.args.place same c.in-None.ensures.lookup.0)

pub returns-in-None-clause-within : goal.returns-in-None-clause-within
returns-in-None-clause-within g c =
    let same : c.deref.result.now ≡ c.args.self.now = c.deref.ensures.value ∙ c.self.view_is in
    subst (λ (a : Answer). length (block_of_answer a) ≤ 16383) (picked-past c.deref.result.now c.args.self.now c.args.place same c.in-None.ensures.lookup.0) c.headers_404.ensures.within
