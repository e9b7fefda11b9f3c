use Rattle.std.proofs.Common.{◌≡◌, drop, None}
use Rattle.h2_cmd_judge.specs.CaseVerdicts.{worst_after}
use Rattle.h2_cmd_judge.proofs.case.worst.Given as goal

abbrev pub invariant-loop-finding : goal.invariant-loop-finding
invariant-loop-finding l = worst_after l.found (drop l.finding-index l.findings) ≡ worst_after None l.findings
