use Rattle.std.proofs.Common.{◌≡◌, ◌<◌, ◌-◌, ◌++◌, take, drop, length}
use Rattle.h2_spec.specs.Frames.Frame.{frames_octets}
use Rattle.h2_spec.specs.SendPending.{data_frames}
use Rattle.h2_conn_send.proofs.pieces.write_pieces.Given as goal

abbrev pub invariant-loop-at : goal.invariant-loop-at
invariant-loop-at g l = record {
  within : l.at < length l.octets;
  kept : take (length (g.O.Outgoing.octets l.fn.out)) (g.O.Outgoing.octets l.out) ≡ (g.O.Outgoing.octets l.fn.out);
  left : (g.O.Outgoing.octets l.out) ++ frames_octets (data_frames l.id l.ends l.size (drop l.at l.octets)) ≡ (g.O.Outgoing.octets l.fn.out) ++ frames_octets (data_frames l.id l.ends l.size l.octets);
}

abbrev pub decreases-loop-at : goal.decreases-loop-at
decreases-loop-at g l = length l.octets - l.at
