use Rattle.std.proofs.Common.{◌≡◌, ◌++◌, false, drop, flat_map, map}
use Rattle.h2_cmd_check.specs.JUnit.{results_in}
use Rattle.h2_cmd_check.proofs.junit.put_tap.Given as goal

abbrev pub invariant-loop-suite : goal.invariant-loop-suite
invariant-loop-suite l = l.out.refused ≡ false
    → (l.fn.out.refused ≡ false) × (l.out.octets.items ++ flat_map (λ f. f.results) (map results_in (drop l.suite-index l.suites)) ≡ l.fn.out.octets.items ++ flat_map (λ f. f.results) (map results_in l.suites))
