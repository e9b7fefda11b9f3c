use Rattle.std.proofs.lemmas.Result.{err_from_is_err_and}
use Rattle.h2_page.proofs.answers.book_in.Goals as goal

pub returns-in_err-add_lines-clause-err : goal.returns-in_err-add_lines-clause-err
returns-in_err-add_lines-clause-err g c =
    let p = err_from_is_err_and c.from_residual.result c.from_residual.ensures.1 in
    rw (p.1, p.2) (rw (c.as_slice.ensures.value, c.in-Ok.ensures, c.new-book.ensures) at c.in_err-add_lines.ensures.err)
