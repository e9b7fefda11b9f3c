use Rattle.std.proofs.Common.{◌≡◌, ◌++◌, drop, flat_map, map}
use Rattle.h2_cmd_check.specs.Blessed.{kept_line}
use Rattle.h2_cmd_check.proofs.bless.add_lines.Given as goal

abbrev pub invariant-loop-line : goal.invariant-loop-line
invariant-loop-line l = l.text.items ++ flat_map kept_line (map (λ t. t.now) (drop l.line-index l.lines)) ≡ l.fn.text.items ++ flat_map kept_line (map (λ t. t.now) l.lines)
