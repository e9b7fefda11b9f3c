use Rattle.std.proofs.Common.{◌≡◌, ◌-◌, length, drop}
use Rattle.std.specs.Prelude.{min}
use Rattle.h2_explain_item.specs.CaseFacts.{groups_value}
use Rattle.h2_explain_item.proofs.diagnosis.integer.groups_value.Given as goal

abbrev pub invariant-loop-passed : goal.invariant-loop-passed
invariant-loop-passed l = l.value ≡ min (groups_value (drop (length l.octets - l.passed) l.octets)) 4294967296
