use Rattle.std.proofs.Common.{◌≡◌, ◌-◌, ◌≤◌, drop, take, []}
use Rattle.h2_hpack_list.proofs.FieldList.copy_from.Given as goal

abbrev pub invariant-loop-place : goal.invariant-loop-place
invariant-loop-place g l = record {
  from : l.from ≤ l.place;
  copied : l.copy.fields ≡ take (l.place - l.from) (drop l.from l.self.fields);
  next : l.copy.next ≡ [];
}
