use Rattle.std.proofs.Common.{rules}
use Rattle.h2_request_book.proofs.book.is_bad_status.Goals as goal

pub returns-else-status-lt200 : goal.returns-else-status-lt200
returns-else-status-lt200 c = search rules
