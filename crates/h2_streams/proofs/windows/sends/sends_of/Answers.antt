use Rattle.std.proofs.Common.{ap, map, refl, ◌∙◌}
use Rattle.std.proofs.lemmas.List.{take_all}
use Rattle.std.proofs.lemmas.Result.{IfOk-from_err}
use Rattle.h2_streams.specs.Sends.{send_of}
use Rattle.h2_streams.proofs.SendLaws.{mapped-more}
use Rattle.h2_streams.proofs.windows.sends.sends_of.Goals as goal

pub returns-in_err-sends : goal.returns-in_err-sends
returns-in_err-sends g c = IfOk-from_err c.from_residual.result _ c.from_residual.ensures.0

pub returns-in_err-push : goal.returns-in_err-push
returns-in_err-push g c = IfOk-from_err c.from_residual-in_err-push.result _ c.from_residual-in_err-push.ensures.0

pub loop-stream-init : goal.loop-stream-init
loop-stream-init g c = c.in_ok-sends.ensures.items

pub loop-stream-preserved : goal.loop-stream-preserved
loop-stream-preserved g c =
    let more = mapped-more send_of c.args.streams.now c.loop-stream.sends.items c.loop-stream.stream-index c.stream-item.result (send_of c.stream-item.result) in
    c.in_ok-push.ensures.items ∙ more c.loop-stream.invariant c.loop-stream-test.true c.stream-item.is refl

pub returns : goal.returns
returns g c = c.loop-stream.invariant ∙ ap (map send_of) (take_all c.loop-stream.stream-index c.args.streams.now c.loop-stream-test.false)
