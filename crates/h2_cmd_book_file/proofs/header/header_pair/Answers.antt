use Rattle.std.proofs.Common.{sym}
use Rattle.h2_cmd_book_file.proofs.Pairs.{header_pair-short, header_pair-long}
use Rattle.h2_cmd_book_file.proofs.header.header_pair.Goals as goal

pub returns-in-empty : goal.returns-in-empty
returns-in-empty c = sym (header_pair-short c.args.pair.now c.in-empty.len_below)

pub returns-in-len3-up : goal.returns-in-len3-up
returns-in-len3-up c = sym (header_pair-long c.args.pair.now c.in-len3-up.len_at_least)
