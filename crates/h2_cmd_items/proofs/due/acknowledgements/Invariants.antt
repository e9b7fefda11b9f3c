use Rattle.std.proofs.Common.{◌≡◌, drop}
use Rattle.h2_cmd_items.specs.Dues.{acknowledgements}
use Rattle.h2_cmd_items.proofs.due.acknowledgements.Given as goal

abbrev pub invariant-loop-item : goal.invariant-loop-item
invariant-loop-item l = acknowledgements l.count (drop l.item-index l.items) ≡ acknowledgements 0 l.items
