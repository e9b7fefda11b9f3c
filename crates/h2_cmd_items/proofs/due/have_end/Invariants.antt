use Rattle.std.proofs.Common.{◌≡◌, drop}
use Rattle.h2_cmd_items.specs.Dues.{have_end}
use Rattle.h2_cmd_items.proofs.due.have_end.Given as goal

abbrev pub invariant-loop-item : goal.invariant-loop-item
invariant-loop-item l = have_end l.stream (drop l.item-index l.items) ≡ have_end l.stream l.items
