use Rattle.std.proofs.Common.{◌-◌, ◌≡◌, ◌≤◌, filter, take}
use Rattle.h2_io.specs.HexText.{is_digit}
use Rattle.h2_io.proofs.hex_spaced.digits_ahead.Given as goal

abbrev pub invariant-loop-used : goal.invariant-loop-used
invariant-loop-used l = record {
  digits : filter is_digit (take l.used l.text) ≡ take l.used l.text;
  within : l.used ≤ l.most;
}

abbrev pub decreases-loop-used : goal.decreases-loop-used
decreases-loop-used l = l.most - l.used
