use Rattle.std.proofs.Common.{◌≡◌, drop}
use Rattle.h2_cmd_dialogue.specs.Limits.{most_frame}
use Rattle.h2_cmd_dialogue.proofs.limits.most_frame.Given as goal

abbrev pub invariant-loop-grant : goal.invariant-loop-grant
invariant-loop-grant l = most_frame l.most (drop l.grant-index l.waiting) ≡ most_frame l.frame l.waiting
