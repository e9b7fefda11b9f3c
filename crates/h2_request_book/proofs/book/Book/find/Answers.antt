use Rattle.std.proofs.Common.{rules}
use Rattle.h2_spec.specs.Requests.Answer.{pick_of}
use Rattle.h2_request_book.proofs.book.Book.find.Goals as goal

pub returns-in-Some-clause-first : goal.returns-in-Some-clause-first
unfolding pick_of
returns-in-Some-clause-first g c = search rules
