use Rattle.std.proofs.Common.{◌≡◌, ℕ, List, Some, false, length}
use Rattle.h2_cmd_batch.specs.TableProgram.{lines_of, printed_parts}
use Rattle.h2_cmd_batch.proofs.Tables.{Wrote}
use Rattle.h2_cmd_batch.proofs.commands.table.write_lines.Given as goal

abbrev pub invariant-loop-rest : goal.invariant-loop-rest
invariant-loop-rest g l = record {
  writer : g.O.Output.has_failed l.output ≡ false;
  name : g.O.Output.name l.output ≡ g.O.Output.name l.initial.output;
  printed : (held : List ℕ) → g.O.Output.written l.initial.output ≡ Some held
      → Wrote (printed_parts l.initial.table (lines_of l.input)) l.table l.rest held (g.O.Output.written l.output);
}

abbrev pub decreases-loop-rest : goal.decreases-loop-rest
decreases-loop-rest g l = length l.rest
