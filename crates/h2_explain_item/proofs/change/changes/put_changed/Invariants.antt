use Rattle.std.proofs.Common.{◌≡◌, ◌++◌, take}
use Rattle.std.specs.List.{filter}
use Rattle.h2_explain_item.specs.Changes.{is_other}
use Rattle.h2_explain_item.proofs.change.changes.put_changed.Given as goal

abbrev pub invariant-loop-change : goal.invariant-loop-change
invariant-loop-change g l = l.out.items ≡ l.fn.out.items ++ filter is_other (take l.change-index l.table)
