use Rattle.std.proofs.Common.{◌≡◌, ◌&&◌, false, refl, sym}
use Rattle.std.proofs.lemmas.Result.{IfOk-from_err}
use Rattle.h2_spec.specs.Stream.{is_live}
use Rattle.h2_explain_item.proofs.ChangeLaws.{dead_rows, live_rows}
use Rattle.h2_explain_item.proofs.change.changes.put_stream.Goals.{else-is_live-via-then-is_live+else-is_live-2, else-is_live-via-else-is_live}
use Rattle.h2_explain_item.proofs.change.changes.put_stream.Goals as goal

pub returns-else-is_live : goal.returns-else-is_live
returns-else-is_live g c =
    let dead : (is_live c.args.before.now.kind && is_live c.args.after.now.kind) ≡ false = elim c.else-is_live.branch [ else-is_live-via-then-is_live+else-is_live-2 w ↦ rw (← w.if-is_live.ensures, ← w.if-is_live-2.ensures) refl | else-is_live-via-else-is_live w ↦ rw (← w.if-is_live.ensures) refl ] in
    dead_rows c.args.before.now c.args.after.now _ _ _ dead c.state_row.ensures c.in_ok-put_changed.ensures

pub returns-in_ok-put_changed-2 : goal.returns-in_ok-put_changed-2
returns-in_ok-put_changed-2 g c =
    live_rows c.args.before.now c.args.after.now _ _ _ _ _ (sym c.if-is_live.ensures) (sym c.if-is_live-2.ensures) c.state_row.ensures c.numbers_table.ensures
    c.in_ok-put_changed.ensures c.in_ok-put_changed-2.ensures

pub returns-in_err-put_changed : goal.returns-in_err-put_changed
returns-in_err-put_changed g c = IfOk-from_err c.from_residual.result _ c.from_residual.ensures.0

pub returns-in_err-put_changed-2 : goal.returns-in_err-put_changed-2
returns-in_err-put_changed-2 g c = IfOk-from_err c.from_residual-in_err-put_changed-2.result _ c.from_residual-in_err-put_changed-2.ensures.0
