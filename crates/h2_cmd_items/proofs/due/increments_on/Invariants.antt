use Rattle.std.proofs.Common.{◌≡◌, drop}
use Rattle.h2_cmd_items.specs.Dues.{increments_on}
use Rattle.h2_cmd_items.proofs.due.increments_on.Given as goal

abbrev pub invariant-loop-item : goal.invariant-loop-item
invariant-loop-item l = increments_on l.count l.stream (drop l.item-index l.items) ≡ increments_on l.before l.stream l.items
