use Rattle.std.proofs.Common.{◌≡◌, ◌<◌, ◌≤◌, is_some, length}
use Rattle.h2_io.specs.HexText.{most_digits, octets_spelled}
use Rattle.h2_io.proofs.hex_input.is_hex_text.Given as goal

abbrev pub invariant-loop-rest : goal.invariant-loop-rest
invariant-loop-rest l = record {
  spelled : is_some (octets_spelled l.text) ≡ is_some (octets_spelled l.rest);
  some : 0 < l.width;
  few : l.width ≤ most_digits;
}

abbrev pub decreases-loop-rest : goal.decreases-loop-rest
decreases-loop-rest l = length l.rest
