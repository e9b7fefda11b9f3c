use Rattle.std.proofs.Common.{◌≡◌, ◌++◌, drop, false, flat_map}
use Rattle.h2_explain_text.specs.Lines.{moved_line}
use Rattle.h2_explain_text.proofs.change_lines.put_moved.Given as goal

abbrev pub invariant-loop-change : goal.invariant-loop-change
invariant-loop-change g l = record {
  well : l.out.failed ≡ false;
  written : l.out.octets.items ++ flat_map (moved_line l.paint.0) (drop l.change-index l.moved) ≡ l.fn.out.octets.items ++ flat_map (moved_line l.paint.0) l.moved;
}
