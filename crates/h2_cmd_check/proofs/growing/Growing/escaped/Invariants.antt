use Rattle.std.proofs.Common.{◌≡◌, ◌++◌, false, drop}
use Rattle.h2_cmd_check.specs.Tap.{escaped}
use Rattle.h2_cmd_check.proofs.growing.Growing.escaped.Given as goal

abbrev pub invariant-loop-octet : goal.invariant-loop-octet
invariant-loop-octet l = l.self.refused ≡ false
    → (l.fn.self.refused ≡ false) × (l.self.octets.items ++ escaped (drop l.octet-index l.octets) ≡ l.fn.self.octets.items ++ escaped l.octets)
