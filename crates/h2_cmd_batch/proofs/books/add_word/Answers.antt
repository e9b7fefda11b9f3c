use Rattle.h2_cmd_batch.proofs.RefusedAnswers.{word-told}
use Rattle.h2_cmd_batch.proofs.books.add_word.Goals as goal

pub returns-in-Err-clause-err : goal.returns-in-Err-clause-err
returns-in-Err-clause-err c = word-told _ _ _ c.told.ensures (rw c.as_bytes.ensures.value at c.in-Err.ensures.err)
