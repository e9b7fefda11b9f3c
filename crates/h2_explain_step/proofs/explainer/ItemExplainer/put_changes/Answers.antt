use Rattle.h2_explain_item.specs.Notes.{note_of}
use Rattle.std.proofs.Common.{◌∙◌}
use Rattle.std.proofs.lemmas.Result.{on_ok_weaker}
use Rattle.h2_explain_step.proofs.Accounts.{lists, notes_on-same}
use Rattle.h2_explain_step.proofs.explainer.ItemExplainer.put_changes.Goals as goal

pub returns-clause-changes : goal.returns-clause-changes
returns-clause-changes g c =
    on_ok_weaker c.see_sent.result
    (λ sent. lists c.args.item.now c.args.conn.now.state c.args.self.now.notes.block (note_of c.args.self.now.notes) (note_of c.see_own.new.self.notes)
    c.clear.new.self.items c.connection_changes.new.out.items c.stream_changes.new.out.items c.see_sent.new.out.items
    c.in_ok-see_own.ensures.notes c.clear.ensures.items c.in_ok-connection_changes.ensures c.in_ok-stream_changes.ensures sent)
    c.see_sent.ensures.changes

pub returns-clause-notes : goal.returns-clause-notes
returns-clause-notes g c =
    on_ok_weaker c.see_sent.result (λ notes id. notes id ∙ notes_on-same c.args.item.now.number _ _ _ _ c.in_ok-see_own.ensures.notes id) c.see_sent.ensures.notes

pub returns-clause-blocks : goal.returns-clause-blocks
returns-clause-blocks g c =
    let kept = c.in_ok-see_own.ensures.blocks in
    on_ok_weaker c.see_sent.result (λ blocks. (blocks.0 ∙ kept.0, blocks.1 ∙ kept.1)) c.see_sent.ensures.blocks
