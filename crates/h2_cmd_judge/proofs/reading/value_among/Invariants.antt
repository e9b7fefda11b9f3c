use Rattle.std.proofs.Common.{◌≡◌, drop}
use Rattle.h2_frame.specs.Parts.{settings_in}
use Rattle.h2_cmd_judge.specs.Readings.{value_among}
use Rattle.h2_cmd_judge.proofs.reading.value_among.Given as goal

abbrev pub invariant-loop-place : goal.invariant-loop-place
invariant-loop-place l = value_among l.id l.value (drop l.place (settings_in l.settings)) ≡ value_among l.id l.other (settings_in l.settings)
