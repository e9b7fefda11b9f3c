use Rattle.std.proofs.Common.{ap, map, ◌∙◌}
use Rattle.std.proofs.lemmas.List.{take_all}
use Rattle.std.proofs.lemmas.Result.{IfOk-from_err}
use Rattle.h2_streams.specs.Sends.{without_send}
use Rattle.h2_streams.proofs.SendLaws.{mapped-more}
use Rattle.h2_streams.proofs.sharing.shared.shared_streams.Goals as goal

pub returns-in_err-list : goal.returns-in_err-list
returns-in_err-list g c = IfOk-from_err c.from_residual.result _ c.from_residual.ensures.0

pub returns-in_err-shared : goal.returns-in_err-shared
returns-in_err-shared g c = IfOk-from_err c.from_residual-in_err-shared.result _ c.from_residual-in_err-shared.ensures.0

pub returns-in_err-push : goal.returns-in_err-push
returns-in_err-push g c = IfOk-from_err c.from_residual-in_err-push.result _ c.from_residual-in_err-push.ensures.0

pub loop-stream-init : goal.loop-stream-init
loop-stream-init g c = c.in_ok-list.ensures.items

pub loop-stream-preserved : goal.loop-stream-preserved
loop-stream-preserved g c =
    let more = mapped-more without_send c.args.streams.now c.loop-stream.list.items c.loop-stream.stream-index c.stream-item.result c.in_ok-shared.shared in
    c.in_ok-push.ensures.items ∙ more c.loop-stream.invariant c.loop-stream-test.true c.stream-item.is c.in_ok-shared.ensures

pub returns : goal.returns
returns g c = c.loop-stream.invariant ∙ ap (map without_send) (take_all c.loop-stream.stream-index c.args.streams.now c.loop-stream-test.false)
