use Rattle.std.proofs.Common.{◌≤◌, drop, length}
use Rattle.std.specs.Prelude.{◌-◌}
use Rattle.h2_conn.specs.Runs.{Leads}
use Rattle.h2_conn.proofs.feed.first.take_all.Given as goal

abbrev pub invariant-loop-used : goal.invariant-loop-used
invariant-loop-used g l = record {
  leads : Leads l.fn.state l.octets (g.O.Outgoing.octets l.fn.out) l.items l.state (drop l.used l.octets) (g.O.Outgoing.octets l.out);
  few : l.items ≤ l.used;
  within : l.used ≤ length l.octets;
}

abbrev pub decreases-loop-used : goal.decreases-loop-used
decreases-loop-used g l = length l.octets - l.used
