use Rattle.std.proofs.Common.{◌≡◌, drop, take}
use Rattle.h2_fields.proofs.batches.Shared.is_in.Given as goal

abbrev pub invariant-loop-place : goal.invariant-loop-place
invariant-loop-place g l = record {
  same : take l.place l.self.fields ≡ take l.place (drop l.from l.list.fields);
}
