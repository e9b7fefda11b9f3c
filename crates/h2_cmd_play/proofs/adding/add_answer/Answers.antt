use Rattle.std.proofs.lemmas.Result.{err_from_is_err_and}
use Rattle.h2_cmd_play.proofs.RefusedWords.{word_refused}
use Rattle.h2_cmd_play.proofs.adding.add_answer.Goals as goal

pub returns-in_err-entry-clause-err : goal.returns-in_err-entry-clause-err
returns-in_err-entry-clause-err g c =
    let p = err_from_is_err_and c.from_residual.result c.from_residual.ensures.1 in
    rw (p.1, p.2) (word_refused c.args.book.now c.args.word.now c.in_err-entry.field-0.0 c.in_err-entry.ensures.refused)
