use Rattle.std.proofs.lemmas.Result.{IfOk-from_err}
use Rattle.h2_streams.proofs.sharing.patch.append.Goals as goal

pub returns-in_err-share : goal.returns-in_err-share
returns-in_err-share g c = IfOk-from_err c.from_residual.result _ c.from_residual.ensures.0

pub returns-in_err-push : goal.returns-in_err-push
returns-in_err-push g c = IfOk-from_err c.from_residual-in_err-push.result _ c.from_residual-in_err-push.ensures.0
