use Rattle.std.proofs.Common.{◌≡◌, drop}
use Rattle.h2_cmd_against.specs.Results.{have_name}
use Rattle.h2_cmd_against.proofs.counts.have_name.Given as goal

abbrev pub invariant-loop-rule : goal.invariant-loop-rule
invariant-loop-rule l = have_name l.name (drop l.rule-index l.rules) ≡ have_name l.name l.rules
