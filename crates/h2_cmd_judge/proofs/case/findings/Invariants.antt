use Rattle.std.proofs.Common.{◌≡◌, map, take}
use Rattle.h2_cmd_judge.specs.CaseVerdicts.{found_beside}
use Rattle.h2_cmd_judge.proofs.case.findings.Given as goal

abbrev pub invariant-loop-due : goal.invariant-loop-due
invariant-loop-due l = l.found.items ≡ map (found_beside l.own l.theirs l.ending l.peer) (take l.due-index l.dues)
