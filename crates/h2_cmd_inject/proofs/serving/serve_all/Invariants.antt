use Rattle.std.proofs.Common.{◌≡◌, false}
use Rattle.h2_cmd_inject.proofs.serving.serve_all.Given as goal

abbrev pub invariant-loop-later : goal.invariant-loop-later
invariant-loop-later g l = g.O.Output.has_failed l.output ≡ false
