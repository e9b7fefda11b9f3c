use Rattle.std.proofs.Common.{◌≡◌, ◌-◌}
use Rattle.h2_spec.specs.SendPending.{all_after_sending, window_left}
use Rattle.h2_conn_send.specs.Above.{streams_above, left_above}
use Rattle.h2_conn_send.proofs.send_pending.take_allowances.Given as goal

abbrev pub invariant-loop-stream : goal.invariant-loop-stream
invariant-loop-stream g l = record {
  sent : streams_above l.after l.left l.streams.streams ≡ all_after_sending l.window l.fn.streams.streams;
  left : left_above l.after l.left l.streams.streams ≡ window_left l.window l.fn.streams.streams;
  last : l.streams.last ≡ l.fn.streams.last;
}

abbrev pub decreases-loop-stream : goal.decreases-loop-stream
decreases-loop-stream g l = l.streams.last - l.after
