use Rattle.std.proofs.Common.{◌≡◌, drop}
use Rattle.h2_cmd_items.specs.Dues.{window_after}
use Rattle.h2_cmd_items.proofs.due.window_after.Given as goal

abbrev pub invariant-loop-item : goal.invariant-loop-item
invariant-loop-item l = window_after l.window (drop l.item-index l.items) ≡ window_after l.before l.items
