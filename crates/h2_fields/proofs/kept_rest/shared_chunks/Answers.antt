use Rattle.std.proofs.Common.{◌∙◌}
use Rattle.h2_fields.proofs.Chunking.{one-more}
use Rattle.h2_fields.proofs.kept_rest.shared_chunks.Goals as goal

pub loop-i-preserved : goal.loop-i-preserved
loop-i-preserved g c =
    rw c.in_ok-push.ensures.items (record {
      same = one-more c.args.octets.now c.in_ok-chunk.chunk c.loop-i.chunks.items c.loop-i.i c.loop-i.invariant.same (c.in_ok-chunk.ensures ∙ c.chunk_at.ensures);
    })
