use Rattle.std.proofs.Common.{◌≡◌, drop}
use Rattle.toml.specs.View.{items_view}
use Rattle.h2_cmd_book_file.specs.AnswerTable.{headers_in}
use Rattle.h2_cmd_book_file.proofs.Headers.{fields_after}
use Rattle.h2_cmd_book_file.proofs.header.read_headers.Given as goal

abbrev pub invariant-loop-pair : goal.invariant-loop-pair
invariant-loop-pair l = fields_after l.fields.items (items_view (drop l.pair-index l.pairs)) ≡ headers_in (items_view l.pairs)
