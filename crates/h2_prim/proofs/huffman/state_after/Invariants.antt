use Rattle.std.proofs.Common.{◌/◌, ℕ, List, take}
use Rattle.h2_spec.specs.Hpack.Huffman.{bits}
use Rattle.h2_prim.specs.States.{Represents, IsRow}
use Rattle.h2_prim.proofs.huffman.state_after.Given as goal

abbrev pub invariant-loop-octet : goal.invariant-loop-octet
invariant-loop-octet l = record {
  read : (text : List ℕ) × Represents (bits (take l.octet-index l.octets)) text (l.row / 16);
  row : IsRow l.row;
}
