use Rattle.std.proofs.Common.{◌≡◌, drop}
use Rattle.h2_cmd_items.specs.Dues.{have_error}
use Rattle.h2_cmd_items.proofs.due.have_error.Given as goal

abbrev pub invariant-loop-item : goal.invariant-loop-item
invariant-loop-item l = have_error (drop l.item-index l.items) ≡ have_error l.items
