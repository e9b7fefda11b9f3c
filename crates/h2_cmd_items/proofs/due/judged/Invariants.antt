use Rattle.std.proofs.Common.{◌≡◌, ◌++◌, [], drop, take}
use Rattle.h2_cmd_items.specs.Dues.{judged_behind}
use Rattle.h2_cmd_items.proofs.due.judged.Given as goal

abbrev pub invariant-loop-place : goal.invariant-loop-place
invariant-loop-place l = l.found.items ++ judged_behind (take l.place l.items) (drop l.place l.items) ≡ judged_behind [] l.items
