use Rattle.std.proofs.Common.{◌≡◌, drop}
use Rattle.h2_cmd_items.specs.Dues.{data_on}
use Rattle.h2_cmd_items.proofs.due.data_on.Given as goal

abbrev pub invariant-loop-item : goal.invariant-loop-item
invariant-loop-item l = data_on l.count l.stream (drop l.item-index l.items) ≡ data_on 0 l.stream l.items
