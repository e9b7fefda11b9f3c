use Rattle.h2_prim.proofs.HuffmanTable.{move_at}
use Rattle.h2_prim.proofs.huffman.move_at.Goals as goal

pub returns : goal.returns
returns c =
    let right = move_at c.args.row c.args.nibble c.requires.row c.requires.nibble in
    rw c.from.ensures (record { leads = right.leads; row = right.is_row; symbol = right.symbol_small })
