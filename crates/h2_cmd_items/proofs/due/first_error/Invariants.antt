use Rattle.std.proofs.Common.{◌≡◌, drop}
use Rattle.h2_cmd_items.specs.Dues.{first_error}
use Rattle.h2_cmd_items.proofs.due.first_error.Given as goal

abbrev pub invariant-loop-item : goal.invariant-loop-item
invariant-loop-item l = first_error (drop l.item-index l.items) ≡ first_error l.items
