use Rattle.h2_cmd_args.proofs.Tables.{word-added, words-done}
use Rattle.h2_cmd_args.proofs.usages.with_words.Goals as goal

pub loop-word-preserved : goal.loop-word-preserved
loop-word-preserved c = λ is.
    word-added _ c.args.words.now c.loop-word.word-index _ _ _ _ c.loop-word-test.true c.in_ok-command.ensures c.arg_of.ensures (c.loop-word.invariant is)

pub returns : goal.returns
returns c = λ is. words-done _ c.args.words.now c.loop-word.word-index _ c.loop-word-test.false (c.loop-word.invariant is)
