use Rattle.std.proofs.Common.{◌++◌}
use Rattle.std.specs.Vec.{vec_len, vec_capacity}
use Rattle.h2_spec.specs.Hpack.Integer.{groups_of}
use Rattle.h2_prim.proofs.Groups.{Left}
use Rattle.h2_prim.proofs.integer.write_groups.Given as goal

abbrev pub invariant-loop-value : goal.invariant-loop-value
invariant-loop-value g l = Left l.out.items (l.fn.out.items ++ groups_of 5 l.fn.value) (vec_len l.out) (vec_capacity l.out) l.value

abbrev pub decreases-loop-value : goal.decreases-loop-value
decreases-loop-value g l = l.value
