use Rattle.std.proofs.Common.{ap, arith}
use Rattle.std.proofs.lemmas.Result.{err_from_is_err_and}
use Rattle.h2_cmd_book_file.specs.Entries.{with_entry}
use Rattle.h2_cmd_book_file.proofs.book_file.add_answer.Goals as goal

pub returns-in_err-entry-clause-added : goal.returns-in_err-entry-clause-added
returns-in_err-entry-clause-added g c = λ printed.
    let p = err_from_is_err_and c.from_residual.result c.from_residual.ensures.1 in
    rw (p.1, p.2) (λ above. ap (with_entry c.args.book.now) (c.in_err-entry.ensures.printed printed above))

pub returns-in-Err-NoMemory-clause-added : goal.returns-in-Err-NoMemory-clause-added
returns-in-Err-NoMemory-clause-added g c = λ _ above. absurd (omega (arith, above))
