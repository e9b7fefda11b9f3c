use Rattle.std.proofs.Common.{◌≡◌, ◌++◌, false, drop}
use Rattle.h2_cmd_check.specs.JUnit.{xml_text}
use Rattle.h2_cmd_check.proofs.junit.put_xml.Given as goal

abbrev pub invariant-loop-octet : goal.invariant-loop-octet
invariant-loop-octet l = l.out.refused ≡ false
    → (l.fn.out.refused ≡ false) × (l.out.octets.items ++ xml_text (drop l.octet-index l.octets) ≡ l.fn.out.octets.items ++ xml_text l.octets)
