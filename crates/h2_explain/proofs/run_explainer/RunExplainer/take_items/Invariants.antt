use Rattle.std.proofs.Common.{◌≡◌, ◌≤◌, ◌-◌, ℕ, [], true, false, drop, length}
use Rattle.h2_conn.specs.Connection.{going}
use Rattle.h2_conn.specs.Runs.{Leads}
use Rattle.h2_explain.specs.Explaining.{ExplainsOn}
use Rattle.h2_explain.proofs.run_explainer.RunExplainer.take_items.Given as goal

abbrev pub invariant-loop-used : goal.invariant-loop-used
invariant-loop-used g l = record {
  within : l.at ≤ length l.octets;
  ready : l.conn ≡ going l.conn.state [];
  writer : g.O.Output.has_failed l.output ≡ false;
  name : g.O.Output.name l.output ≡ g.O.Output.name l.fn.output;
  on : ExplainsOn l.fn.self l.fn.conn.state l.octets (g.O.Output.written l.fn.output) l.self l.conn.state (drop l.at l.octets) (g.O.Output.written l.output);
  held : l.self.held ≡ l.fn.self.held;
  late : l.self.late ≡ l.fn.self.late;
  leads : l.keeps ≡ true → (n : ℕ) × Leads l.fn.conn.state l.octets l.fn.out n l.conn.state (drop l.at l.octets) l.out;
}

abbrev pub decreases-loop-used : goal.decreases-loop-used
decreases-loop-used g l = length l.octets - l.at
