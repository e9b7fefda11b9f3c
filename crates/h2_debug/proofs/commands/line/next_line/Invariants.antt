use Rattle.std.proofs.Common.{◌≡◌, ◌-◌, ℕ, List, false, take}
use Rattle.h2_debug.specs.Commands.{longest}
use Rattle.h2_debug.specs.Reading.{IsTaken, ahead}
use Rattle.h2_debug.proofs.commands.line.next_line.Given as goal

abbrev pub invariant-loop-octet : goal.invariant-loop-octet
invariant-loop-octet g l = record {
  taken : (line : List ℕ) × IsTaken (ahead l.initial.reader (g.I.Input.remaining l.initial.input)) (ahead l.reader (g.I.Input.remaining l.input)) l.initial.reader.passed l.reader.passed line
      × (l.line.items ≡ take longest line);
  well : g.I.Input.has_failed l.input ≡ false;
  name : g.I.Input.name l.input ≡ g.I.Input.name l.initial.input;
}

abbrev pub decreases-loop-octet : goal.decreases-loop-octet
decreases-loop-octet g l = 16777216 - l.reader.passed
