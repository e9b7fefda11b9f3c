use Rattle.std.proofs.Common.{rules}
use Rattle.h2_request_book.proofs.book.Book.answer.Goals as goal

pub returns-in-Connect : goal.returns-in-Connect
returns-in-Connect g c = search rules
