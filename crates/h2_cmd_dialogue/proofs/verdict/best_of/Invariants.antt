use Rattle.std.proofs.Common.{◌≡◌, drop, None}
use Rattle.h2_cmd_dialogue.specs.Verdicts.{best_of}
use Rattle.h2_cmd_dialogue.proofs.verdict.best_of.Given as goal

abbrev pub invariant-loop-line : goal.invariant-loop-line
invariant-loop-line l = best_of l.taken l.best (drop l.line-index l.lines) ≡ best_of l.taken None l.lines
