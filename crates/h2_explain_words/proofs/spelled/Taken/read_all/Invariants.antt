use Rattle.std.proofs.Common.{◌≡◌, ◌≤◌, ◌-◌, length, drop}
use Rattle.h2_explain_words.specs.Spelled.{read_to}
use Rattle.h2_explain_words.proofs.spelled.Taken.read_all.Given as goal

abbrev pub invariant-loop-used : goal.invariant-loop-used
invariant-loop-used g l = record {
  within : l.at ≤ length l.octets;
  read : read_to l.count l.limit l.fn.self l.octets ≡ read_to l.count l.limit l.self (drop l.at l.octets);
}

abbrev pub decreases-loop-used : goal.decreases-loop-used
decreases-loop-used g l = length l.octets - l.at
