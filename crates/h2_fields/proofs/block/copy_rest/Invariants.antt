use Rattle.std.proofs.Common.{◌≡◌, ◌≤◌, length, take}
use Rattle.h2_fields.proofs.block.copy_rest.Given as goal

abbrev pub invariant-loop-place : goal.invariant-loop-place
invariant-loop-place g l = record {
  from : length l.fn.fields.items ≤ l.place;
  copied : l.fields.items ≡ take l.place l.collected.fields;
}
