use Rattle.std.proofs.Common.{◌≡◌, ℕ, ◌-◌, List, ◌++◌, drop, false, length, map}
use Rattle.std.specs.Io.KnownBytes.{Appends}
use Rattle.h2_spec.specs.Texts.Show.{stream_lines}
use Rattle.h2_spec.specs.Texts.View.{shown_stream}
use Rattle.h2_conn_view.proofs.show.StreamsTextText.write_to.Given as goal

abbrev pub invariant-loop-stream : goal.invariant-loop-stream
invariant-loop-stream g l = record {
  well : g.O.Output.has_failed l.output ≡ false;
  name : g.O.Output.name l.output ≡ g.O.Output.name l.fn.output;
  written : (done : List ℕ) × Appends (g.O.Output.written l.fn.output) (g.O.Output.written l.output) done
      × (done ++ stream_lines (map shown_stream (drop l.place l.self.0.now.streams)) ≡ stream_lines (map shown_stream l.self.0.now.streams));
}

abbrev pub decreases-loop-stream : goal.decreases-loop-stream
decreases-loop-stream g l = length l.self.0.now.streams - l.place
