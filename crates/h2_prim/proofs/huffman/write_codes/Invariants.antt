use Rattle.std.proofs.Common.{◌≡◌, ◌+◌, ◌*◌, ◌<◌, ◌^◌, take, length}
use Rattle.std.specs.Vec.{vec_len, vec_capacity}
use Rattle.h2_spec.specs.Hpack.Huffman.{codes}
use Rattle.h2_prim.specs.Written.{Written}
use Rattle.h2_prim.proofs.huffman.write_codes.Given as goal

abbrev pub invariant-loop-octet : goal.invariant-loop-octet
invariant-loop-octet g l = record {
  few : l.count < 8;
  small : l.number < 2 ^ l.count;
  written : Written l.fn.out.items l.out.items l.count l.number (codes (take l.octet-index l.text));
  size : 8 * vec_len l.out + l.count ≡ 8 * vec_len l.fn.out + length (codes (take l.octet-index l.text));
  capacity : vec_capacity l.out ≡ vec_capacity l.fn.out;
}
