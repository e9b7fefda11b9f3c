use Rattle.std.proofs.Common.{◌≡◌, ◌<◌, ◌≤◌, ◌-◌, ◌^◌, drop}
use Rattle.h2_spec.specs.Hpack.Integer.{groups_at, scaled}
use Rattle.h2_prim.proofs.integer.read_groups.Given as goal

abbrev pub invariant-loop-i : goal.invariant-loop-i
invariant-loop-i l = record {
  within : l.i ≤ 5;
  weight : l.weight ≡ 128 ^ l.i;
  value : l.value < l.weight;
  rest : groups_at 5 l.octets ≡ scaled l.value l.weight l.i (groups_at (5 - l.i) (drop l.i l.octets));
}
