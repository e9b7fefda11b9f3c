use Rattle.std.proofs.Common.{◌≡◌, ◌*◌, take}
use Rattle.std.specs.List.{concat}
use Rattle.h2_fields.proofs.kept_rest.shared_chunks.Given as goal

abbrev pub invariant-loop-i : goal.invariant-loop-i
invariant-loop-i g l = record {
  same : concat l.chunks.items ≡ take (l.i * 1024) l.octets;
}
