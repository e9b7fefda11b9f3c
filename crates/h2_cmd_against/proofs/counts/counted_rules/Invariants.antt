use Rattle.std.proofs.Common.{◌≡◌, map, take}
use Rattle.h2_cmd_against.specs.Results.{counted_if}
use Rattle.h2_cmd_against.proofs.counts.counted_rules.Given as goal

abbrev pub invariant-loop-rule : goal.invariant-loop-rule
invariant-loop-rule l = l.found.items ≡ map (counted_if l.name) (take l.rule-index l.rules)
