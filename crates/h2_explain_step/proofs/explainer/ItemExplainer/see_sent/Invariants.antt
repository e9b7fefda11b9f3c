use Rattle.std.specs.Prelude.{◌≡◌, ◌-◌, ◌++◌, ℕ, length}
use Rattle.h2_spec.specs.Stream.{stream_at}
use Rattle.h2_explain_step.specs.Account.{KeepsBlocks, changes_of_sent, changes_on, notes_of_sent, notes_on, streams_of}
use Rattle.h2_explain_item.specs.Notes.{note_of}
use Rattle.h2_explain_step.specs.Reader.{KeepsTable}
use Rattle.h2_explain_step.proofs.explainer.ItemExplainer.see_sent.Given as goal

abbrev pub invariant-loop-frame : goal.invariant-loop-frame
invariant-loop-frame g l = record {
  changes :
      l.fn.out.items ++ changes_of_sent l.fn.item l.fn.conn.state (note_of l.fn.self.notes)
      ≡ l.out.items ++ changes_on l.fn.item.number (stream_at l.fn.conn.state.core.last l.fn.conn.state.streams) l.fn.item.after.counts.send (note_of l.self.notes) (streams_of (length l.fn.item.sent.now - l._frame) l.rest);
  notes :
      (id : ℕ) → notes_of_sent l.fn.item l.fn.conn.state (note_of l.fn.self.notes) id
      ≡ notes_on l.fn.item.number (stream_at l.fn.conn.state.core.last l.fn.conn.state.streams) (note_of l.self.notes) (streams_of (length l.fn.item.sent.now - l._frame) l.rest) id;
  blocks : KeepsBlocks l.fn.self.notes l.self.notes;
  keeps : KeepsTable l.fn.self l.self;
}
