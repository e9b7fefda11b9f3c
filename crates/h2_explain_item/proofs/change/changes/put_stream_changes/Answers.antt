use Rattle.std.proofs.Common.{sym}
use Rattle.std.proofs.lemmas.Result.{IfOk-from_err}
use Rattle.h2_explain_item.proofs.ChangeLaws.{other_stream, same_stream}
use Rattle.h2_explain_item.proofs.change.changes.put_stream_changes.Goals as goal

pub returns : goal.returns
returns g c =
    other_stream c.args.before.now c.args.after.now c.args.connection _ _ _ c.put_stop.result (sym c.if-is_same_stream.ensures.value) c.requires.stream
    c.in_ok-put_stream.ensures c.put_stop.ensures

pub returns-in_err-put_stream : goal.returns-in_err-put_stream
returns-in_err-put_stream g c = IfOk-from_err c.from_residual.result _ c.from_residual.ensures.0

pub returns-then-is_same_stream : goal.returns-then-is_same_stream
returns-then-is_same_stream g c = same_stream c.args.before.now c.args.after.now c.args.connection c.args.out.now.items (sym c.if-is_same_stream.ensures.value)
