use Rattle.std.proofs.Common.{sym}
use Rattle.h2_cmd_book_file.proofs.Pairs.{fill_pair-short, fill_pair-long}
use Rattle.h2_cmd_book_file.proofs.body.fill_pair.Goals as goal

pub returns-in-empty-clause-said : goal.returns-in-empty-clause-said
returns-in-empty-clause-said c = sym (fill_pair-short c.args.pair.now c.in-empty.len_below)

pub returns-in-len3-up-clause-said : goal.returns-in-len3-up-clause-said
returns-in-len3-up-clause-said c = sym (fill_pair-long c.args.pair.now c.in-len3-up.len_at_least)
