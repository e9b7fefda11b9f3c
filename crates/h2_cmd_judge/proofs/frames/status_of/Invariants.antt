use Rattle.std.proofs.Common.{◌≡◌, drop}
use Rattle.h2_cmd_judge.specs.ServerFrames.{status_of}
use Rattle.h2_cmd_judge.proofs.frames.status_of.Given as goal

abbrev pub invariant-loop-place : goal.invariant-loop-place
invariant-loop-place l = status_of (drop l.place l.fields.fields) ≡ status_of l.fields.fields
