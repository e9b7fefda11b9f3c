use Rattle.std.proofs.Common.{◌≡◌, drop}
use Rattle.h2_cmd_dialogue.specs.Limits.{most_streams}
use Rattle.h2_cmd_dialogue.proofs.limits.most_streams.Given as goal

abbrev pub invariant-loop-grant : goal.invariant-loop-grant
invariant-loop-grant l = most_streams l.most (drop l.grant-index l.waiting) ≡ most_streams l.streams l.waiting
