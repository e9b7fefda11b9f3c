use Rattle.std.proofs.Common.{◌≡◌, drop}
use Rattle.h2_cmd_items.specs.Dues.{first_whole}
use Rattle.h2_cmd_items.proofs.due.first_whole.Given as goal

abbrev pub invariant-loop-item : goal.invariant-loop-item
invariant-loop-item l = first_whole (drop l.item-index l.items) ≡ first_whole l.items
