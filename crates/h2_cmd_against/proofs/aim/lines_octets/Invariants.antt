use Rattle.std.proofs.Common.{◌≡◌, ◌++◌, drop, map}
use Rattle.h2_cmd_check.specs.ItemTexts.{octets_of_lines}
use Rattle.h2_cmd_against.specs.Aims.{aimed_by, aimed_line}
use Rattle.h2_cmd_against.proofs.aim.lines_octets.Given as goal

abbrev pub invariant-loop-line : goal.invariant-loop-line
invariant-loop-line l = l.octets.items ++ octets_of_lines (map (aimed_line (aimed_by l.aim)) (map (λ t. t.now) (drop l.line-index l.lines)))
    ≡ octets_of_lines (map (aimed_line (aimed_by l.aim)) (map (λ t. t.now) l.lines))
