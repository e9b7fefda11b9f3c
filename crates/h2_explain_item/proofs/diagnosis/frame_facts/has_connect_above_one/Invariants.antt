use Rattle.std.proofs.Common.{◌≡◌, take}
use Rattle.std.specs.List.{list_any}
use Rattle.h2_frame.specs.Parts.{settings_in}
use Rattle.h2_explain_item.specs.FrameFacts.{is_bad_connect}
use Rattle.h2_explain_item.proofs.diagnosis.frame_facts.has_connect_above_one.Given as goal

abbrev pub invariant-loop-place : goal.invariant-loop-place
invariant-loop-place l = l.found ≡ list_any is_bad_connect (take l.place (settings_in l.settings))
