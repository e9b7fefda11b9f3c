use Rattle.std.proofs.Common.{◌≡◌, ◌++◌, drop, map}
use Rattle.h2_cmd_check.specs.ItemTexts.{octets_of_lines}
use Rattle.h2_cmd_check.proofs.texts.octets_of_lines.Given as goal

abbrev pub invariant-loop-line : goal.invariant-loop-line
invariant-loop-line l = l.octets.items ++ octets_of_lines (map (λ t. t.now) (drop l.line-index l.lines)) ≡ octets_of_lines (map (λ t. t.now) l.lines)
