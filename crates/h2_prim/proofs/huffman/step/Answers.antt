use Rattle.std.proofs.Common.{◌/◌}
use Rattle.h2_spec.specs.Hpack.HuffmanCode.{bits_of}
use Rattle.h2_prim.proofs.Reading.{stepped_at}
use Rattle.h2_prim.proofs.huffman.step.Goals as goal

pub returns-clause-read : goal.returns-clause-read
returns-clause-read c = λ bs at.
    let m = c.move_at-next in
    rw c.from.ensures (stepped_at bs (bits_of 4 c.args.nibble) c.args.text.now c.args.len (c.args.row / 16) m.result.1 (m.result.0 / 16) c.requires.enough m.ensures.symbol at m.ensures.leads)
