use Rattle.std.proofs.Common.{◌≡◌, ◌++◌, drop}
use Rattle.h2_cmd_dialogue.specs.Findings.{steps_found}
use Rattle.h2_cmd_dialogue.proofs.findings.Ended.judge_steps.Given as goal

abbrev pub invariant-loop-number : goal.invariant-loop-number
invariant-loop-number l = record {
  found : l.findings.items ++ (steps_found l.self.course.now l.self.end l.number (drop l.number l.steps)).0 ≡ l.fn.findings.items ++ (steps_found l.self.course.now l.self.end 0 l.steps).0;
  on : (steps_found l.self.course.now l.self.end l.number (drop l.number l.steps)).1 ≡ (steps_found l.self.course.now l.self.end 0 l.steps).1;
}
