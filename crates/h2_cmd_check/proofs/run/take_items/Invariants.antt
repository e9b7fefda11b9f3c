use Rattle.std.proofs.Common.{◌≡◌, ◌≤◌, ◌-◌, [], drop, length}
use Rattle.h2_conn.specs.Connection.{going}
use Rattle.h2_spec.specs.Frames.Parse.{parse_all}
use Rattle.h2_spec.specs.Trace.{next_event}
use Rattle.h2_cmd_check.specs.ItemsTaken.{seen_by, with_items}
use Rattle.h2_cmd_check.proofs.run.take_items.Given as goal

abbrev pub invariant-loop-used : goal.invariant-loop-used
invariant-loop-used l = record {
  few : l.seen.items ≤ l.at;
  within : l.at ≤ length l.octets;
  ready : l.conn ≡ going l.conn.state [];
  state : (parse_all next_event l.fn.conn.state (drop l.start l.octets)).state ≡ (parse_all next_event l.conn.state (drop l.at l.octets)).state;
  rest : (parse_all next_event l.fn.conn.state (drop l.start l.octets)).rest ≡ (parse_all next_event l.conn.state (drop l.at l.octets)).rest;
  seen : with_items l.fn.conn.state (seen_by l.fn.seen) (parse_all next_event l.fn.conn.state (drop l.start l.octets)).elements
      ≡ with_items l.conn.state (seen_by l.seen) (parse_all next_event l.conn.state (drop l.at l.octets)).elements;
}

abbrev pub decreases-loop-used : goal.decreases-loop-used
decreases-loop-used l = length l.octets - l.at
