use Rattle.std.proofs.Common.{◌≡◌, drop}
use Rattle.h2_cmd_judge.specs.CaseVerdicts.{unreadable_of}
use Rattle.h2_cmd_judge.proofs.case.unreadable_of.Given as goal

abbrev pub invariant-loop-seen : goal.invariant-loop-seen
invariant-loop-seen l = unreadable_of (drop l.seen-index l.events) ≡ unreadable_of l.events
