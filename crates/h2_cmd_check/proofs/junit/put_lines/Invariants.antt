use Rattle.std.proofs.Common.{◌≡◌, ◌++◌, [], false, drop, map}
use Rattle.h2_cmd_check.specs.JUnit.{xml_lines}
use Rattle.h2_cmd_check.proofs.junit.put_lines.Given as goal

abbrev pub invariant-loop-line : goal.invariant-loop-line
invariant-loop-line l = l.out.refused ≡ false
    → (l.fn.out.refused ≡ false) × (l.out.octets.items ++ xml_lines l.end l.file l.shown (map (λ t. t.now) (drop l.line-index l.lines)) ≡ l.fn.out.octets.items ++ xml_lines [] l.file l.shown (map (λ t. t.now) l.lines))
