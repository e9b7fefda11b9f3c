use Rattle.std.proofs.Common.{◌≡◌, ◌-◌, ◌++◌, take, length}
use Rattle.h2_spec.specs.Frames.Frame.{frames_octets}
use Rattle.h2_spec.specs.SendPending.{sent_frames}
use Rattle.h2_conn_send.specs.Above.{frames_above}
use Rattle.h2_conn_send.proofs.send_pending.write_ready.Given as goal

abbrev pub invariant-loop-stream : goal.invariant-loop-stream
invariant-loop-stream g l =
    let ss = l.streams.streams in
    record {
      sent : (g.O.Outgoing.octets l.out) ++ frames_octets (frames_above l.book l.size l.after l.left ss) ≡ (g.O.Outgoing.octets l.fn.out) ++ frames_octets (sent_frames l.book l.size l.window ss);
      kept : take (length (g.O.Outgoing.octets l.fn.out)) (g.O.Outgoing.octets l.out) ≡ (g.O.Outgoing.octets l.fn.out);
    }

abbrev pub decreases-loop-stream : goal.decreases-loop-stream
decreases-loop-stream g l = l.streams.last - l.after
