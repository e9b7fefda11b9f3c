use Rattle.std.proofs.Common.{inr}
use Rattle.h2_cmd_cases.proofs.Readings.{word_added, word_refused}
use Rattle.h2_embed.proofs.words.add_line.Goals as goal

pub returns-in-Ok-add-clause-ok : goal.returns-in-Ok-add-clause-ok
returns-in-Ok-add-clause-ok c = word_added c.args.words.now c.args.line.now c.in-Ok.word.now _ c.in-Ok.ensures.cases.0 c.in-Ok.ensures.cases.1 c.in-Ok-add.ensures.ok

pub returns-in-Err-clause-err : goal.returns-in-Err-clause-err
returns-in-Err-clause-err c = inr (word_refused c.args.words.now c.args.line.now c.in-Err.ensures.cases.0)
