use Rattle.std.proofs.Common.{◌≡◌, drop, is_some}
use Rattle.toml.specs.View.{items_view}
use Rattle.h2_cmd_book_file.specs.AnswerTable.{headers_in}
use Rattle.h2_cmd_book_file.proofs.header.are_headers.Given as goal

abbrev pub invariant-loop-pair : goal.invariant-loop-pair
invariant-loop-pair l = is_some (headers_in (items_view (drop l.pair-index l.pairs))) ≡ is_some (headers_in (items_view l.pairs))
