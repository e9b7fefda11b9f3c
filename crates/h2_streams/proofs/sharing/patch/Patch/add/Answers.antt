use Rattle.std.proofs.lemmas.Result.{IfOk-from_err}
use Rattle.h2_streams.proofs.PatchLaws.{patched-own}
use Rattle.h2_streams.proofs.sharing.patch.Patch.add.Goals as goal

pub returns : goal.returns
returns g c =
    let self = c.args.self.now in
    patched-own c.args.base.now self.steps.items c.push.new.self.items self.last c.next-next.result c.in_ok-own.own _ c.in_ok-push.ensures.items c.in_ok-own.ensures c.next-next.ensures

pub returns-in_err-own : goal.returns-in_err-own
returns-in_err-own g c = IfOk-from_err c.from_residual.result _ c.from_residual.ensures.0

pub returns-in_err-push : goal.returns-in_err-push
returns-in_err-push g c = IfOk-from_err c.from_residual-in_err-push.result _ c.from_residual-in_err-push.ensures.0
