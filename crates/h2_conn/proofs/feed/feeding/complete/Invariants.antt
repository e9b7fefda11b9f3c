use Rattle.std.proofs.Common.{◌≡◌, ◌++◌, ◌≤◌, take, length}
use Rattle.std.specs.Prelude.{◌-◌}
use Rattle.h2_spec.specs.Frames.Frame.{NoItem}
use Rattle.h2_spec.specs.Trace.{next_item}
use Rattle.h2_conn.specs.Connection.{Fits}
use Rattle.h2_conn.proofs.feed.feeding.complete.Given as goal

abbrev pub invariant-loop-splitter : goal.invariant-loop-splitter
invariant-loop-splitter g l = record {
  fits : Fits l.splitter l.state.core.phase;
  held : l.splitter.octets ≡ l.fn.splitter.octets ++ take l.used l.piece;
  same : l.state ≡ l.fn.state;
  quiet : (g.O.Outgoing.octets l.out) ≡ (g.O.Outgoing.octets l.fn.out);
  none : next_item l.state l.splitter.octets ≡ NoItem;
  within : l.used ≤ length l.piece;
}

abbrev pub decreases-loop-splitter : goal.decreases-loop-splitter
decreases-loop-splitter g l = length l.piece - l.used
