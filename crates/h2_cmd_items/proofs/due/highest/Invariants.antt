use Rattle.std.proofs.Common.{◌≡◌, drop}
use Rattle.h2_cmd_items.specs.Dues.{highest}
use Rattle.h2_cmd_items.proofs.due.highest.Given as goal

abbrev pub invariant-loop-item : goal.invariant-loop-item
invariant-loop-item l = highest l.found (drop l.item-index l.items) ≡ highest 0 l.items
