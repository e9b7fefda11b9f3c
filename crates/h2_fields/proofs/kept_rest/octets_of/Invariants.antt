use Rattle.std.proofs.Common.{◌≡◌, take}
use Rattle.std.specs.List.{concat}
use Rattle.h2_fields.proofs.kept_rest.octets_of.Given as goal

abbrev pub invariant-loop-chunk : goal.invariant-loop-chunk
invariant-loop-chunk g l = record {
  same : l.octets.items ≡ concat (take l.chunk-index l.chunks);
}
