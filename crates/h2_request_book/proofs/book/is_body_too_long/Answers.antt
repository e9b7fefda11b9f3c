use Rattle.std.proofs.Common.{rules}
use Rattle.h2_request_book.proofs.book.is_body_too_long.Goals as goal

pub returns : goal.returns
returns c = search rules
