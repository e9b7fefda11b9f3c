use Rattle.std.proofs.Common.{◌≡◌, ◌+◌, ◌*◌, ◌<◌, ◌≤◌, ◌^◌, ℕ, List, Bool}
use Rattle.std.specs.Vec.{vec_len, vec_capacity}
use Rattle.h2_prim.specs.Written.{Written}
use Rattle.h2_prim.proofs.huffman.flush.Given as goal

abbrev pub invariant-loop-count : goal.invariant-loop-count
invariant-loop-count g l = record {
  few : l.count ≤ 40;
  small : l.number < 2 ^ l.count;
  written : (before : List ℕ) (bs : List Bool) → Written before l.fn.out.items l.fn.count l.fn.number bs → Written before l.out.items l.count l.number bs;
  size : 8 * vec_len l.out + l.count ≡ 8 * vec_len l.fn.out + l.fn.count;
  capacity : vec_capacity l.out ≡ vec_capacity l.fn.out;
}

abbrev pub decreases-loop-count : goal.decreases-loop-count
decreases-loop-count g l = l.count
