use Rattle.std.proofs.Common.{false, length, sym, true}
use Rattle.h2_explain_words.specs.Sent.{first_seen}
use Rattle.h2_cmd_dialogue.proofs.WeaveLaws.{picks-end, picks-next}
use Rattle.h2_cmd_dialogue.proofs.weave.put_frames_apart.Goals as goal

pub returns-in_default-clause-out : goal.returns-in_default-clause-out
returns-in_default-clause-out c =
    picks-end false c.args.reset.now (length c.args.sent.now) c.loop-frame._frame c.loop-frame.rest.now c.args.out.now.items c.loop-frame.out.items c.args.sent.now
    (sym c.in_default.ensures) c.loop-frame.invariant.out

pub returns-in_default-clause-withheld : goal.returns-in_default-clause-withheld
returns-in_default-clause-withheld c =
    picks-end true c.args.reset.now (length c.args.sent.now) c.loop-frame._frame c.loop-frame.rest.now c.args.withheld.now.items c.loop-frame.withheld.items c.args.sent.now
    (sym c.in_default.ensures) c.loop-frame.invariant.withheld

pub loop-frame-preserved : goal.loop-frame-preserved
loop-frame-preserved c =
    let first = first_seen (c.in-Some.frame, c.in-Some.behind) in
    record {
      out = picks-next false c.args.reset.now (length c.args.sent.now) c.loop-frame._frame c.loop-frame.rest.now c.args.out.now.items c.loop-frame.out.items c.put_frame_apart.new.out.items c.args.sent.now
          first c.loop-frame-test.true (sym c.in-Some.ensures) c.in_ok-put_frame_apart.ensures.out c.loop-frame.invariant.out;
      withheld = picks-next true c.args.reset.now (length c.args.sent.now) c.loop-frame._frame c.loop-frame.rest.now c.args.withheld.now.items c.loop-frame.withheld.items c.put_frame_apart.new.withheld.items c.args.sent.now
          first c.loop-frame-test.true (sym c.in-Some.ensures) c.in_ok-put_frame_apart.ensures.withheld c.loop-frame.invariant.withheld;
    }
