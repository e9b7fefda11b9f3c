use Rattle.std.proofs.Common.{◌≡◌, ◌++◌, drop, false, flat_map}
use Rattle.h2_cmd_against.specs.Results.{rule_text}
use Rattle.h2_cmd_against.proofs.counts.put_rules.Given as goal

abbrev pub invariant-loop-rule : goal.invariant-loop-rule
invariant-loop-rule l = record {
  well : l.out.failed ≡ false;
  written : l.out.octets.items ++ flat_map rule_text (drop l.rule-index l.rules) ≡ l.fn.out.octets.items ++ flat_map rule_text l.rules;
}
