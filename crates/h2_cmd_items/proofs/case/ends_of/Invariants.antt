use Rattle.std.proofs.Common.{◌≡◌, map, take}
use Rattle.h2_cmd_items.specs.declared.sent.Sent.{Sent}
use Rattle.h2_cmd_items.proofs.case.ends_of.Given as goal

abbrev pub invariant-loop-item : goal.invariant-loop-item
invariant-loop-item l = l.ends.items ≡ map (λ (s : Sent). s.end) (take l.item-index l.items)
