use Rattle.std.proofs.Common.{arith, refl}
use Rattle.h2_spec.specs.Frames.FrameType.{frame_type}
use Rattle.h2_frame.specs.Parts.{data_seen}
use Rattle.h2_conn.proofs.PartLaws.{content-within}
use Rattle.h2_conn.proofs.effect.data_frame.incoming.Goals as goal

pub overflow_cast-content : goal.overflow_cast-content
overflow_cast-content c =
    let within = content-within (frame_type c.args.head.now.kind) c.args.head.now.flags c.args.payload.now (data_seen c.args.part) c.requires.part in
    let short = c.requires.fits in
    grind (arith, within, short)

pub returns : goal.returns
returns c = rw c.has.ensures refl
