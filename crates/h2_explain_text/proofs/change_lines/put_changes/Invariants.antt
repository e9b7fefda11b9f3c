use Rattle.std.proofs.Common.{◌≡◌, ◌++◌, drop, false, flat_map}
use Rattle.h2_explain_text.specs.Lines.{change_line}
use Rattle.h2_explain_text.proofs.change_lines.put_changes.Given as goal

abbrev pub invariant-loop-change : goal.invariant-loop-change
invariant-loop-change g l = record {
  well : l.out.failed ≡ false;
  written : l.out.octets.items ++ flat_map (change_line l.paint.0) (drop l.change-index l.changes) ≡ l.fn.out.octets.items ++ flat_map (change_line l.paint.0) l.changes;
}
