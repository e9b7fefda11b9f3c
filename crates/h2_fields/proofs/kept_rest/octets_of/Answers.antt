use Rattle.std.proofs.Common.{arith, rules}
use Rattle.h2_fields.proofs.Chunking.{joined-more}
use Rattle.h2_fields.proofs.kept_rest.octets_of.Goals as goal

pub loop-chunk-preserved : goal.loop-chunk-preserved
loop-chunk-preserved g c =
    rw c.in_ok-extend_from_slice.ensures.items (rw c.as_slice.ensures.value (record {
      same = joined-more c.args.chunks.now c.loop-chunk.octets.items c.as_ref.result.now.items c.loop-chunk.chunk-index c.loop-chunk.invariant.same (omega arith) (search rules);
    }))
