use Rattle.std.proofs.Common.{sym}
use Rattle.std.proofs.lemmas.Result.{on_ok_weaker}
use Rattle.h2_explain_step.proofs.Accounts.{keeps_blocks, later_notes}
use Rattle.h2_explain_step.proofs.explainer.ItemExplainer.see_again.Goals as goal

pub returns-clause-notes : goal.returns-clause-notes
returns-clause-notes g c =
    on_ok_weaker c.see.result (λ seen. later_notes c.args.self.now.notes c.see.new.self c.args.item.now.number c.args.stream _ c.stream-now.result c.args.note.now (sym c.requires.noted) c.stream-now.ensures seen c.see.ensures.not_noted) c.see.ensures.noted

pub returns-clause-blocks : goal.returns-clause-blocks
returns-clause-blocks g c =
    on_ok_weaker c.see.result (λ seen. keeps_blocks c.args.self.now.notes c.see.new.self c.args.item.now.number c.args.item.now.number c.stream-now.result seen c.see.ensures.not_noted) c.see.ensures.noted
