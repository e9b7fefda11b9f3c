use Rattle.std.proofs.Common.{◌≡◌, drop, None}
use Rattle.h2_frame.specs.Parts.{settings_in}
use Rattle.h2_cmd_dialogue.specs.Limits.{value_of}
use Rattle.h2_cmd_dialogue.proofs.limits.value_of.Given as goal

abbrev pub invariant-loop-place : goal.invariant-loop-place
invariant-loop-place l = value_of l.id l.value (drop l.place (settings_in l.settings)) ≡ value_of l.id None (settings_in l.settings)
