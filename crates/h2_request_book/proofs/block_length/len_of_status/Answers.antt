use Rattle.std.proofs.Common.{◌∙◌, sym, ap, cond}
use Rattle.h2_request_book.proofs.BlockLaws.{status_len-is}
use Rattle.h2_request_book.proofs.block_length.len_of_status.Goals as goal

pub returns-then-is_indexed-clause-exact : goal.returns-then-is_indexed-clause-exact
returns-then-is_indexed-clause-exact c = sym (status_len-is c.args.status ∙ ap (λ b. cond b 1 5) (sym c.is_indexed.ensures ∙ c.if-is_indexed.true))

pub returns-else-is_indexed-clause-exact : goal.returns-else-is_indexed-clause-exact
returns-else-is_indexed-clause-exact c = sym (status_len-is c.args.status ∙ ap (λ b. cond b 1 5) (sym c.is_indexed.ensures ∙ c.if-is_indexed.false))
