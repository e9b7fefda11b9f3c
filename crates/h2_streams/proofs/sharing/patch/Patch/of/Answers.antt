use Rattle.std.proofs.Common.{[], ◌++◌, ap, map, refl, ◌∙◌}
use Rattle.std.proofs.lemmas.List.{take_all}
use Rattle.std.proofs.lemmas.Result.{IfOk-from_err}
use Rattle.h2_streams.specs.Patches.{patched, steps_of}
use Rattle.h2_streams.specs.Sends.{without_send}
use Rattle.h2_streams.proofs.SendLaws.{mapped-more}
use Rattle.h2_streams.proofs.sharing.patch.Patch.of.Goals as goal

pub returns-in_err-with_capacity : goal.returns-in_err-with_capacity
returns-in_err-with_capacity g c = IfOk-from_err c.from_residual.result _ c.from_residual.ensures.0

pub returns-in_err-add : goal.returns-in_err-add
returns-in_err-add g c = IfOk-from_err c.from_residual-in_err-add.result _ c.from_residual-in_err-add.ensures.0

pub loop-stream-init : goal.loop-stream-init
loop-stream-init g c = ap (λ steps. steps_of c.args.base.now steps ++ []) c.in_ok-with_capacity.ensures.items

pub loop-stream-preserved : goal.loop-stream-preserved
loop-stream-preserved g c =
    let old = c.loop-stream.patch in
    let st = c.stream-item.result in
    let more = mapped-more without_send c.args.streams.now (patched c.args.base.now old.steps.items old.last) c.loop-stream.stream-index st (without_send st) in
    c.in_ok-add.ensures ∙ more c.loop-stream.invariant c.loop-stream-test.true c.stream-item.is refl

pub returns : goal.returns
returns g c = c.loop-stream.invariant ∙ ap (map without_send) (take_all c.loop-stream.stream-index c.args.streams.now c.loop-stream-test.false)
