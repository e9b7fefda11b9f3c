use Rattle.std.proofs.Common.{◌≡◌, ◌++◌, drop, flat_map, map}
use Rattle.h2_cmd_cases.specs.Frames.{told_line}
use Rattle.h2_cmd_cases.proofs.frames.push_told_lines.Given as goal

abbrev pub invariant-loop-line : goal.invariant-loop-line
invariant-loop-line l =
    l.out.items ++ flat_map told_line (map (λ t. t.now) (drop l.line-index l.lines)) ≡ l.fn.out.items ++ flat_map told_line (map (λ t. t.now) l.lines)
