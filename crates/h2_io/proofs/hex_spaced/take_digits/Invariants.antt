use Rattle.std.proofs.Common.{length, ◌-◌, ◌≡◌, ◌≤◌, filter, take}
use Rattle.h2_io.specs.HexText.{is_digit, most_digits}
use Rattle.h2_io.proofs.hex_spaced.take_digits.Given as goal

abbrev pub invariant-loop-used : goal.invariant-loop-used
invariant-loop-used l = record {
  digits : l.digits.items ≡ filter is_digit (take l.used l.text);
  within : l.used ≤ length l.text;
  few : length l.digits.items ≤ most_digits;
  kept : length l.digits.items ≤ l.used;
}

abbrev pub decreases-loop-used : goal.decreases-loop-used
decreases-loop-used l = length l.text - l.used
