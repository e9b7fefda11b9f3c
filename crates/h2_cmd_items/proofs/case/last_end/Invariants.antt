use Rattle.std.proofs.Common.{◌≡◌, drop}
use Rattle.h2_cmd_items.specs.CaseItems.{last_end}
use Rattle.h2_cmd_items.proofs.case.last_end.Given as goal

abbrev pub invariant-loop-item : goal.invariant-loop-item
invariant-loop-item l = last_end l.end (drop l.item-index l.items) ≡ last_end 0 l.items
