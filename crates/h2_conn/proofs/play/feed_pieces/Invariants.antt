use Rattle.std.proofs.Common.{◌≡◌, ◌≤◌, false, length, take}
use Rattle.h2_conn.specs.Runs.{Fed}
use Rattle.h2_conn.proofs.play.feed_pieces.Given as goal

abbrev pub invariant-loop-length : goal.invariant-loop-length
invariant-loop-length g l = record {
  within : l.at ≤ length l.octets;
  going : l.conn.failed ≡ false;
  fed : Fed l.fn.conn (take l.at l.octets) (g.O.Outgoing.octets l.fn.out) l.conn (g.O.Outgoing.octets l.out);
  kept : take (length (g.O.Outgoing.octets l.fn.out)) (g.O.Outgoing.octets l.out) ≡ (g.O.Outgoing.octets l.fn.out);
}
