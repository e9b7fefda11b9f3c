use Rattle.std.proofs.Common.{◌≡◌, take}
use Rattle.std.specs.List.{list_any}
use Rattle.h2_explain_item.specs.FrameFacts.{is_not_zero}
use Rattle.h2_explain_item.proofs.diagnosis.frame_facts.has_not_zero.Given as goal

abbrev pub invariant-loop-octet : goal.invariant-loop-octet
invariant-loop-octet l = l.found ≡ list_any is_not_zero (take l.octet-index l.octets)
