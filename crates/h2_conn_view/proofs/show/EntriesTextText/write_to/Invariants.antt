use Rattle.std.proofs.Common.{◌≡◌, ◌≤◌, ℕ, ◌+◌, ◌-◌, List, ◌++◌, drop, false, length}
use Rattle.std.specs.Io.KnownBytes.{Appends}
use Rattle.h2_spec.specs.Texts.Show.{entry_lines}
use Rattle.h2_conn_view.proofs.show.EntriesTextText.write_to.Given as goal

abbrev pub invariant-loop-name : goal.invariant-loop-name
invariant-loop-name g l = record {
  within : l.place ≤ length l.self.0.now.table.entries;
  well : g.O.Output.has_failed l.output ≡ false;
  name : g.O.Output.name l.output ≡ g.O.Output.name l.fn.output;
  written : (done : List ℕ) × Appends (g.O.Output.written l.fn.output) (g.O.Output.written l.output) done
      × (done ++ entry_lines (62 + l.place) (drop l.place l.self.0.now.table.entries) ≡ entry_lines 62 l.self.0.now.table.entries);
}

abbrev pub decreases-loop-name : goal.decreases-loop-name
decreases-loop-name g l = length l.self.0.now.table.entries - l.place
