use Rattle.std.proofs.Common.{◌≡◌, ◌+◌, take}
use Rattle.h2_request_book.specs.BlockLength.{status_len, fields_len}
use Rattle.h2_request_book.proofs.block_length.is_block_too_long.Given as goal

abbrev pub invariant-loop-field : goal.invariant-loop-field
invariant-loop-field g l = l.left + status_len l.status + fields_len (take l.field-index l.fields) ≡ 16383
