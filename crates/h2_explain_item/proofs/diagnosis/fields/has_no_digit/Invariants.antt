use Rattle.std.proofs.Common.{◌≡◌, take}
use Rattle.std.specs.List.{list_any}
use Rattle.h2_explain_item.specs.FieldFacts.{is_no_digit}
use Rattle.h2_explain_item.proofs.diagnosis.fields.has_no_digit.Given as goal

abbrev pub invariant-loop-octet : goal.invariant-loop-octet
invariant-loop-octet l = l.found ≡ list_any is_no_digit (take l.octet-index l.value)
