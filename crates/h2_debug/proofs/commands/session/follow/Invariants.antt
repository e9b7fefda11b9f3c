use Rattle.std.proofs.Common.{◌≡◌, ◌-◌, ◌++◌, ℕ, List, Some, false}
use Rattle.h2_debug.specs.Reading.{ahead, most}
use Rattle.h2_debug.proofs.Following.{Continues}
use Rattle.h2_debug.proofs.commands.session.follow.Given as goal

abbrev pub invariant-loop-end : goal.invariant-loop-end
invariant-loop-end g l = record {
  input : g.I.Input.has_failed l.input ≡ false;
  output : g.O.Output.has_failed l.output ≡ false;
  input_name : g.I.Input.name l.input ≡ g.I.Input.name l.initial.input;
  output_name : g.O.Output.name l.output ≡ g.O.Output.name l.initial.output;
  printed : (octets held : List ℕ) → ahead l.initial.reader (g.I.Input.remaining l.initial.input) ≡ Some octets → g.O.Output.written l.initial.output ≡ Some held
      → (more : List ℕ) × (text : List ℕ) × (ahead l.reader (g.I.Input.remaining l.input) ≡ Some more) × (g.O.Output.written l.output ≡ Some (held ++ text))
      × Continues l.initial.debugger (most - l.initial.reader.passed) octets l.debugger (most - l.reader.passed) more text;
}

abbrev pub decreases-loop-end : goal.decreases-loop-end
decreases-loop-end g l = 16777216 - l.reader.passed
