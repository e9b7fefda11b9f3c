use Rattle.std.proofs.Common.{◌≡◌, drop}
use Rattle.h2_cmd_judge.specs.CaseVerdicts.{stray_of}
use Rattle.h2_cmd_judge.proofs.case.stray_of.Given as goal

abbrev pub invariant-loop-seen : goal.invariant-loop-seen
invariant-loop-seen l = stray_of l.highest (drop l.seen-index l.events) ≡ stray_of l.highest l.events
