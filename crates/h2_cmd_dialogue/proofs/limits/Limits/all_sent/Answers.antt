use Rattle.std.proofs.Common.{◌∙◌, ◌-◌, ◌+◌, ap, length, arith, sym}
use Rattle.h2_explain_words.specs.Sent.{first_seen}
use Rattle.h2_cmd_dialogue.specs.Limits.{Limits, sent_frames}
use Rattle.h2_cmd_dialogue.proofs.LimitLaws.{sent-none, sent-some}
use Rattle.h2_cmd_dialogue.proofs.limits.Limits.all_sent.Goals as goal

pub loop-frame-preserved : goal.loop-frame-preserved
loop-frame-preserved c =
    let n = length c.args.octets.now in
    ap (λ (l : Limits). sent_frames (n - (c.loop-frame._frame + 1)) l c.in-Some.behind.now) c.in_ok-sent.ensures
    ∙ sym (sent-some c.loop-frame.self n c.loop-frame._frame c.loop-frame.rest.now (first_seen (c.in-Some.frame, c.in-Some.behind)) (omega (arith, c.loop-frame-test.true)) (sym c.in-Some.ensures))
    ∙ c.loop-frame.invariant

pub returns-in_default : goal.returns-in_default
returns-in_default c =
    let n = length c.args.octets.now in
    sym (sent-none c.loop-frame.self (n - c.loop-frame._frame) c.loop-frame.rest.now (sym c.in_default.ensures)) ∙ c.loop-frame.invariant
