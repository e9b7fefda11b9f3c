use Rattle.std.proofs.Common.{refl}
use Rattle.std.proofs.lemmas.Result.{on_ok_weaker}
use Rattle.h2_explain_step.proofs.Accounts.{keeps_blocks, notes_after, unseen_notes}
use Rattle.h2_explain_step.proofs.explainer.ItemExplainer.see_own.Goals as goal

pub returns-then-item-eq0-clause-notes : goal.returns-then-item-eq0-clause-notes
returns-then-item-eq0-clause-notes g c = unseen_notes c.args.self.now.notes c.args.item.now.number _ c.args.item.now.after.stream (rw c.if-item-eq0.true refl)

pub returns-clause-notes : goal.returns-clause-notes
returns-clause-notes g c =
    on_ok_weaker c.see.result (λ seen. rw (← c.end_of-ended.ensures) (notes_after c.args.self.now.notes c.see.new.self c.args.item.now.number c.end_of-ended.result c.args.item.now.after.stream seen c.see.ensures.not_noted)) c.see.ensures.noted

pub returns-clause-blocks : goal.returns-clause-blocks
returns-clause-blocks g c =
    on_ok_weaker c.see.result (λ seen. keeps_blocks c.args.self.now.notes c.see.new.self c.args.item.now.number c.end_of-ended.result c.args.item.now.after.stream seen c.see.ensures.not_noted) c.see.ensures.noted
