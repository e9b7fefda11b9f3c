use Rattle.std.proofs.Common.{◌≡◌, ◌-◌, false}
use Rattle.h2_debug.specs.Reading.{IsTaken, ahead}
use Rattle.h2_debug.proofs.commands.line.take_line.Given as goal

abbrev pub invariant-loop-reader : goal.invariant-loop-reader
invariant-loop-reader g l = record {
  taken : IsTaken (ahead l.initial.reader (g.I.Input.remaining l.initial.input)) (ahead l.reader (g.I.Input.remaining l.input)) l.initial.reader.passed l.reader.passed l.line.items;
  well : g.I.Input.has_failed l.input ≡ false;
  name : g.I.Input.name l.input ≡ g.I.Input.name l.initial.input;
}

abbrev pub decreases-loop-reader : goal.decreases-loop-reader
decreases-loop-reader g l = 16777216 - l.reader.passed
