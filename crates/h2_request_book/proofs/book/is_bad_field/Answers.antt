use Rattle.std.proofs.Common.{rules}
use Rattle.h2_request_book.proofs.book.is_bad_field.Goals as goal

pub returns-then-is_pseudo_name : goal.returns-then-is_pseudo_name
returns-then-is_pseudo_name g c = search rules
