use Rattle.std.proofs.Common.{◌≡◌, ◌≤◌, ◌-◌, false, length, take}
use Rattle.h2_conn.specs.Runs.{Fed}
use Rattle.h2_serve.proofs.driving.driver.take_read.Given as goal

abbrev pub invariant-loop-at : goal.invariant-loop-at
invariant-loop-at g l = record {
  within : l.at ≤ length l.octets;
  fed : Fed (g.D.Driven.connection l.fn.driven) (take l.at l.octets) (g.O.Pending.pending l.fn.out) (g.D.Driven.connection l.driven) (g.O.Pending.pending l.out);
  going : (g.D.Driven.connection l.driven).failed ≡ false;
  ready : g.D.Driven.is_ready l.driven;
  passes : g.D.Driven.passes false l.fn.driven (take l.at l.octets) l.driven;
}

abbrev pub decreases-loop-at : goal.decreases-loop-at
decreases-loop-at g l = length l.octets - l.at
