use Rattle.std.proofs.Common.{◌∙◌, refl, subst}
use Rattle.h2_explain_step.specs.Account.{ListsChanges}
use Rattle.h2_explain_step.proofs.Accounts.{notes-item}
use Rattle.h2_explain_item.specs.Notes.{note_of}
use Rattle.h2_explain_item.specs.declared.notes.Notes.{Notes}
use Rattle.h2_explain_step.proofs.explainer.ItemExplainer.account.Goals as goal

pub returns-clause-changes : goal.returns-clause-changes
returns-clause-changes g c =
    subst (λ (n : Notes g.row.A.Denot). ListsChanges c.args.item.now c.args.conn.now.state n.block (note_of n) c.put_changes.new.list.items) (c.put_entries.ensures.notes ∙ c.in_ok-account.ensures.notes) c.in_ok-put_changes.ensures.changes

pub returns-clause-notes : goal.returns-clause-notes
returns-clause-notes g c =
    notes-item c.args.item.now c.args.conn.now.state c.args.self.now.notes _ _ _ _ (c.put_entries.ensures.notes ∙ c.in_ok-account.ensures.notes) c.in_ok-put_changes.ensures.blocks c.in_ok-put_changes.ensures.notes
    c.in_ok-note_rest.ensures.block c.in_ok-note_rest.ensures.block_end c.in_ok-note_rest.ensures.still refl
