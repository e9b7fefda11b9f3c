use Rattle.std.proofs.Common.{◌≤◌, ◌*◌, ◌/◌, take, length}
use Rattle.h2_spec.specs.Hpack.Huffman.{bits}
use Rattle.h2_prim.specs.States.{Represents, IsRow}
use Rattle.h2_prim.proofs.huffman.decode.Given as goal

abbrev pub invariant-loop-pair : goal.invariant-loop-pair
invariant-loop-pair l = record {
  read : Represents (bits (take (2 * l.pair) l.octets)) (take l.len l.text) (l.row / 16);
  within : l.len ≤ length l.text;
  row : IsRow l.row;
}
