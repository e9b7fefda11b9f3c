use Rattle.std.proofs.Common.{◌≡◌, ◌<◌, ◌≤◌, length}
use Rattle.h2_io.specs.HexText.{all_in_front, most_digits, octets_spelled}
use Rattle.h2_io.proofs.hex_input.decode_text.Given as goal

abbrev pub invariant-loop-rest : goal.invariant-loop-rest
invariant-loop-rest g l = record {
  spelled : octets_spelled l.text ≡ all_in_front l.octets.items (octets_spelled l.rest);
  some : 0 < l.width;
  few : l.width ≤ most_digits;
}

abbrev pub decreases-loop-rest : goal.decreases-loop-rest
decreases-loop-rest g l = length l.rest
