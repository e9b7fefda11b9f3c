use Rattle.std.proofs.Common.{◌≡◌, take}
use Rattle.h2_frame.specs.Parts.{settings_in}
use Rattle.h2_explain_item.specs.CaseFacts.{ends_lawful}
use Rattle.h2_explain_item.proofs.diagnosis.facts.ends_lawful.Given as goal

abbrev pub invariant-loop-place : goal.invariant-loop-place
invariant-loop-place l = l.lawful ≡ ends_lawful (take l.place (settings_in l.settings))
