use Rattle.std.proofs.Common.{ap, length, ◌∙◌, sym}
use Rattle.std.proofs.lemmas.Result.{IfOk-from_err}
use Rattle.h2_streams.specs.Sends.{with_sends}
use Rattle.h2_streams.proofs.SendLaws.{apart-alike, apart-joined}
use Rattle.h2_streams.proofs.sharing.kept.KeptStreams.of.Goals as goal

pub returns-in_err-sends : goal.returns-in_err-sends
returns-in_err-sends g c = IfOk-from_err c.from_residual.result _ c.from_residual.ensures.0

pub returns-in_err-records : goal.returns-in_err-records
returns-in_err-records g c = IfOk-from_err c.from_residual-in_err-records.result _ c.from_residual-in_err-records.ensures.0

pub invariant_of-result : goal.invariant_of-result
invariant_of-result g c = ap length c.in_ok-sends.ensures ∙ apart-alike c.args.streams.now ∙ sym (ap length c.in_ok-records.ensures)

pub returns : goal.returns
returns g c = (λ k. with_sends (c.in_ok-records.ensures k) (c.in_ok-sends.ensures k)) ∙ apart-joined c.args.streams.now
