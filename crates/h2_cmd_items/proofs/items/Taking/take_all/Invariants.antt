use Rattle.std.proofs.Common.{◌≡◌, ◌≤◌, ◌-◌, ◌++◌, ℕ, List, [], drop, length}
use Rattle.h2_conn.specs.Connection.{going}
use Rattle.h2_cmd_items.specs.SentItems.{Along, AreSent, along_of}
use Rattle.h2_cmd_items.specs.declared.sent.Sent.{Sent}
use Rattle.h2_cmd_items.proofs.items.Taking.take_all.Given as goal

abbrev pub invariant-loop-used : goal.invariant-loop-used
invariant-loop-used l = record {
  ready : l.conn ≡ going l.conn.state [];
  within : l.at ≤ length l.octets;
  sent : (more : List Sent) (end : Along) → AreSent l.conn.state (drop l.at l.octets) (length l.self.sent.items) l.at (along_of l.self) more end
      → AreSent l.fn.conn.state l.octets 0 0 (along_of l.fn.self) (l.self.sent.items ++ more) end;
}

abbrev pub decreases-loop-used : goal.decreases-loop-used
decreases-loop-used l = length l.octets - l.at
