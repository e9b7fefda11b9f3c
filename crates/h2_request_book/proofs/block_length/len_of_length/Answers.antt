use Rattle.h2_request_book.proofs.BlockLaws.{string_len-short, string_len-middle, string_len-long}
use Rattle.h2_request_book.proofs.block_length.len_of_length.Goals as goal

pub returns-then-len-lt127 : goal.returns-then-len-lt127
returns-then-len-lt127 c = string_len-short c.args.len c.if-len-lt127.true

pub returns-then-len-lt255 : goal.returns-then-len-lt255
returns-then-len-lt255 c = string_len-middle c.args.len c.if-len-lt127.false c.if-len-lt255.true

pub returns-else-len-lt255 : goal.returns-else-len-lt255
returns-else-len-lt255 c = string_len-long c.args.len c.if-len-lt255.false c.requires
