use Rattle.h2_cmd_inject.specs.Results.{IsNoteIf}
use Rattle.h2_cmd_inject.proofs.ResultLaws.{each-end, each-init, each-next}
use Rattle.h2_cmd_inject.proofs.words.push_notes.Goals as goal

pub loop-finding-init : goal.loop-finding-init
loop-finding-init c = each-init IsNoteIf c.args.findings.now c.args.out.now.items

pub loop-finding-preserved : goal.loop-finding-preserved
loop-finding-preserved c =
    each-next IsNoteIf c.args.findings.now c.loop-finding.finding-index _ c.args.out.now.items c.loop-finding.out.items c.push_note.new.out.items c.loop-finding-test.true c.loop-finding.invariant c.in_ok-push_note.ensures

pub returns : goal.returns
returns c =
    each-end IsNoteIf c.args.findings.now c.loop-finding.finding-index c.args.out.now.items c.loop-finding.out.items c.loop-finding-test.false c.loop-finding.invariant
