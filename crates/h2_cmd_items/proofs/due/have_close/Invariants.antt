use Rattle.std.proofs.Common.{◌≡◌, drop}
use Rattle.h2_cmd_items.specs.Dues.{have_close}
use Rattle.h2_cmd_items.proofs.due.have_close.Given as goal

abbrev pub invariant-loop-item : goal.invariant-loop-item
invariant-loop-item l = have_close l.stream (drop l.item-index l.items) ≡ have_close l.stream l.items
