use Rattle.std.proofs.Common.{◌≡◌, ◌++◌, drop, take}
use Rattle.h2_cmd_items.specs.Dues.{dues, dues_behind}
use Rattle.h2_cmd_items.proofs.due.dues.Given as goal

abbrev pub invariant-loop-place : goal.invariant-loop-place
invariant-loop-place l = l.found.items ++ dues_behind l.whole (take l.place l.items) (drop l.place l.items) ≡ dues l.whole l.items
