use Rattle.std.proofs.Common.{◌≡◌, ◌≤◌, ◌*◌, take, length}
use Rattle.h2_spec.specs.Hpack.Huffman.{codes}
use Rattle.h2_prim.proofs.huffman.huff_len.Given as goal

abbrev pub invariant-loop-octet : goal.invariant-loop-octet
invariant-loop-octet l = record {
  counted : l.bits ≡ length (codes (take l.octet-index l.text));
  few : l.bits ≤ 30 * l.octet-index;
}
