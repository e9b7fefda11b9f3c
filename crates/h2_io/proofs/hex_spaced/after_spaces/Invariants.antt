use Rattle.std.proofs.Common.{length, ◌-◌, ◌≡◌, ◌≤◌, [], filter, take}
use Rattle.h2_io.specs.HexText.{is_digit}
use Rattle.h2_io.proofs.hex_spaced.after_spaces.Given as goal

abbrev pub invariant-loop-used : goal.invariant-loop-used
invariant-loop-used l = record {
  spaces : filter is_digit (take l.used l.text) ≡ [];
  within : l.used ≤ length l.text;
}

abbrev pub decreases-loop-used : goal.decreases-loop-used
decreases-loop-used l = length l.text - l.used
