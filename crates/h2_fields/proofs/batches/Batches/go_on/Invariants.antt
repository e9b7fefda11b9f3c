use Rattle.std.proofs.Common.{◌≡◌, ◌≤◌, ◌++◌, length, take}
use Rattle.h2_fields.proofs.batches.Batches.go_on.Given as goal

abbrev pub invariant-loop-shared : goal.invariant-loop-shared
invariant-loop-shared g l = record {
  within : l.taken ≤ length l.list.fields;
  same : l.self ≡ l.fn.self ++ take l.taken l.list.fields;
}
