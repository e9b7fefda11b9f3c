use Rattle.h2_cmd_inject.specs.Results.{IsVerdictIf}
use Rattle.h2_cmd_inject.proofs.ResultLaws.{each-end, each-init, each-next}
use Rattle.h2_cmd_inject.proofs.words.push_verdicts.Goals as goal

pub loop-finding-init : goal.loop-finding-init
loop-finding-init c = each-init (IsVerdictIf c.args.has_broken c.args.first) c.args.findings.now c.args.out.now.items

pub loop-finding-preserved : goal.loop-finding-preserved
loop-finding-preserved c =
    each-next (IsVerdictIf c.args.has_broken c.args.first) c.args.findings.now c.loop-finding.finding-index _ c.args.out.now.items c.loop-finding.out.items c.push_verdict.new.out.items c.loop-finding-test.true c.loop-finding.invariant c.in_ok-push_verdict.ensures

pub returns : goal.returns
returns c =
    each-end (IsVerdictIf c.args.has_broken c.args.first) c.args.findings.now c.loop-finding.finding-index c.args.out.now.items c.loop-finding.out.items c.loop-finding-test.false c.loop-finding.invariant
