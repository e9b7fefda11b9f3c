use Rattle.std.proofs.Common.{◌≡◌, ◌≤◌, ◌-◌, ◌++◌, ℕ, List, [], drop, length, map}
use Rattle.std.specs.String.{string_bytes}
use Rattle.h2_conn.specs.Connection.{going}
use Rattle.h2_cmd_check.specs.ItemTexts.{AreTexts}
use Rattle.h2_cmd_check.proofs.texts.explain_items.Given as goal

abbrev pub invariant-loop-used : goal.invariant-loop-used
invariant-loop-used l = record {
  ready : l.conn ≡ going l.conn.state [];
  within : l.at ≤ length l.octets;
  texts : (more : List (List ℕ)) → AreTexts l.conn.state (drop l.at l.octets) (length (map string_bytes l.texts.items)) l.at more
      → AreTexts l.fn.conn.state l.octets 0 0 (map string_bytes l.texts.items ++ more);
}

abbrev pub decreases-loop-used : goal.decreases-loop-used
decreases-loop-used l = length l.octets - l.at
