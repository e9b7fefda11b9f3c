use Rattle.std.proofs.Common.{arith, ◌<◌}
use Rattle.h2_prim.proofs.HuffmanTable.{code_at}
use Rattle.h2_prim.proofs.huffman.code_of.Goals as goal

pub returns : goal.returns
returns c =
    let octet : c.args.octet < 256 = omega arith in
    let right = code_at c.args.octet octet in
    rw (c.from.ensures, c.from-2.ensures) (record { code = right.spelled; bits = (right.long, right.short); small = right.small })
