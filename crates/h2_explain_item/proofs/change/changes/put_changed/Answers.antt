use Rattle.std.proofs.Common.{◌∙◌, ◌++◌, true, false, ap, sym}
use Rattle.std.proofs.lemmas.List.{append-nil, take_all}
use Rattle.std.proofs.lemmas.Result.{IfOk-from_err}
use Rattle.std.specs.List.{filter}
use Rattle.h2_explain_item.specs.Changes.{is_other}
use Rattle.h2_explain_item.proofs.ChangeLaws.{kept_next}
use Rattle.h2_explain_item.proofs.change.changes.put_changed.Goals.{then-is_other+in_ok-push, else-is_other}
use Rattle.h2_explain_item.proofs.change.changes.put_changed.Goals as goal

pub loop-change-preserved : goal.loop-change-preserved
loop-change-preserved g c = elim c.if-is_other.branch [
  | then-is_other+in_ok-push w ↦ kept_next c.loop-change.change-index _ _ _ _ _ true c.loop-change-test.true w.if-is_other.ensures c.loop-change.invariant (ap (λ v. v.items) w.out-is ∙ w.in_ok-push.ensures.items)
  | else-is_other w ↦ kept_next c.loop-change.change-index _ _ _ _ _ false c.loop-change-test.true w.if-is_other.ensures c.loop-change.invariant (ap (λ v. v.items) w.out-is ∙ sym (append-nil _))
]

pub returns : goal.returns
returns g c = c.loop-change.invariant ∙ ap (λ xs. c.args.out.now.items ++ filter is_other xs) (take_all _ _ c.loop-change-test.false)

pub returns-in_err-push : goal.returns-in_err-push
returns-in_err-push g c = IfOk-from_err c.from_residual.result _ c.from_residual.ensures.0
