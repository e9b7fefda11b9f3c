use Rattle.h2_cmd_dialogue.proofs.FindingLaws.{found-next, found-stop}
use Rattle.h2_cmd_dialogue.specs.Findings.{steps_found}
use Rattle.h2_cmd_dialogue.proofs.findings.Ended.judge_steps.Goals as goal

pub loop-number-preserved : goal.loop-number-preserved
loop-number-preserved c =
    let next = found-next c.args.self.now.course.now c.args.self.now.end c.loop-number.number c.args.steps.now c.index-steps-number.result (steps_found c.args.self.now.course.now c.args.self.now.end 0 c.args.steps.now) c.args.findings.now.items c.loop-number.findings.items c.judge_step.new.findings.items c.in_ok-judge_step.field-0
    c.loop-number-test.true c.index-steps-number.is c.in_ok-judge_step.ensures.found c.in_ok-judge_step.ensures.on c.if-not-branch.false c.loop-number.invariant.found c.loop-number.invariant.on in
    record { found = next.0; on = next.1 }

pub returns-then-not-branch-clause-found : goal.returns-then-not-branch-clause-found
returns-then-not-branch-clause-found c =
    (found-stop c.args.self.now.course.now c.args.self.now.end c.loop-number.number c.args.steps.now c.index-steps-number.result (steps_found c.args.self.now.course.now c.args.self.now.end 0 c.args.steps.now) c.args.findings.now.items c.loop-number.findings.items c.judge_step.new.findings.items c.in_ok-judge_step.field-0
    c.loop-number-test.true c.index-steps-number.is c.in_ok-judge_step.ensures.found c.in_ok-judge_step.ensures.on c.if-not-branch.true c.loop-number.invariant.found c.loop-number.invariant.on).0

pub returns-then-not-branch-clause-on : goal.returns-then-not-branch-clause-on
returns-then-not-branch-clause-on c =
    (found-stop c.args.self.now.course.now c.args.self.now.end c.loop-number.number c.args.steps.now c.index-steps-number.result (steps_found c.args.self.now.course.now c.args.self.now.end 0 c.args.steps.now) c.args.findings.now.items c.loop-number.findings.items c.judge_step.new.findings.items c.in_ok-judge_step.field-0
    c.loop-number-test.true c.index-steps-number.is c.in_ok-judge_step.ensures.found c.in_ok-judge_step.ensures.on c.if-not-branch.true c.loop-number.invariant.found c.loop-number.invariant.on).1
