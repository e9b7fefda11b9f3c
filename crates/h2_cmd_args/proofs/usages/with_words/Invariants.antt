use Rattle.std.proofs.Common.{◌≡◌, drop}
use Rattle.clap.specs.Words.{app_of}
use Rattle.h2_cmd_args.specs.Built.{IsLocal}
use Rattle.h2_cmd_args.specs.Tables.{with_words}
use Rattle.h2_cmd_args.proofs.usages.with_words.Given as goal

abbrev pub invariant-loop-word : goal.invariant-loop-word
invariant-loop-word l = IsLocal l.fn.command
    → IsLocal l.command × (with_words (app_of l.command) (drop l.word-index l.words) ≡ with_words (app_of l.fn.command) l.words)
