use Rattle.std.proofs.Common.{◌≡◌, drop}
use Rattle.h2_cmd_judge.specs.Recorded.{behind_like}
use Rattle.h2_cmd_judge.proofs.recorded.behind_like.Given as goal

abbrev pub invariant-loop-place : goal.invariant-loop-place
invariant-loop-place l = behind_like (drop l.place l.own) l.event ≡ behind_like l.own l.event
