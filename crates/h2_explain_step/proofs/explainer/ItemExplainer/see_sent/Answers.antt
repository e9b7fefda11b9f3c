use Rattle.std.proofs.Common.{◌≡◌, ◌∙◌, ◌-◌, ◌+◌, suc, length, arith, refl, sym}
use Rattle.h2_explain_words.specs.Sent.{first_seen}
use Rattle.h2_spec.specs.Stream.{stream_at}
use Rattle.h2_explain_item.specs.Notes.{note_of}
use Rattle.h2_explain_step.proofs.Accounts.{none_left, none_noted, one_more, one_noted, streams-none, streams-zero}
use Rattle.h2_explain_step.proofs.explainer.ItemExplainer.see_sent.Goals as goal

pub loop-frame-init : goal.loop-frame-init
loop-frame-init g c =
    let all : length c.args.item.now.sent.now - 0 ≡ length c.args.item.now.sent.now = omega arith in
    record {
      changes = rw all refl;
      notes = λ id. rw all refl;
      blocks = (refl, refl);
      keeps = (refl, refl, refl, refl);
    }

pub loop-frame-preserved : goal.loop-frame-preserved
loop-frame-preserved g c =
    let sent = c.args.item.now.sent.now in
    let left = length sent - (c.loop-frame._frame + 1) in
    let most : length sent - c.loop-frame._frame ≡ suc left =
    omega (arith, c.loop-frame-test.true) in
    let at = stream_at c.args.conn.now.state.core.last c.args.conn.now.state.streams in
    record {
      changes = one_more _ c.loop-frame.out.items c.see.new.out.items c.args.item.now.number at
          c.args.item.now.after.counts.send (note_of c.loop-frame.self.notes) (note_of c.see.new.self.notes) _ left c.loop-frame.rest.now (first_seen (c.in-Some.frame, c.in-Some.after)) most
          (sym c.in-Some.ensures) c.loop-frame.invariant.changes c.in_ok-see.ensures.changes c.in_ok-see.ensures.notes;
      notes = one_noted _ c.args.item.now.number at (note_of c.loop-frame.self.notes) (note_of c.see.new.self.notes) _ left c.loop-frame.rest.now (first_seen (c.in-Some.frame, c.in-Some.after)) most
          (sym c.in-Some.ensures) c.loop-frame.invariant.notes c.in_ok-see.ensures.notes;
      blocks = (c.in_ok-see.ensures.blocks.0 ∙ c.loop-frame.invariant.blocks.0, c.in_ok-see.ensures.blocks.1 ∙ c.loop-frame.invariant.blocks.1);
      keeps = (c.see.ensures.keeps.0 ∙ c.loop-frame.invariant.keeps.0, c.see.ensures.keeps.1 ∙ c.loop-frame.invariant.keeps.1, c.see.ensures.keeps.2 ∙ c.loop-frame.invariant.keeps.2, c.see.ensures.keeps.3 ∙ c.loop-frame.invariant.keeps.3);
    }

pub returns-in_default-clause-changes : goal.returns-in_default-clause-changes
returns-in_default-clause-changes g c =
    none_left _ c.loop-frame.out.items c.args.item.now.number (stream_at c.args.conn.now.state.core.last c.args.conn.now.state.streams)
    c.args.item.now.after.counts.send (note_of c.loop-frame.self.notes) _ (streams-none _ c.loop-frame.rest.now (sym c.in_default.ensures)) c.loop-frame.invariant.changes

pub returns-in_default-clause-notes : goal.returns-in_default-clause-notes
returns-in_default-clause-notes g c =
    none_noted _ c.args.item.now.number (stream_at c.args.conn.now.state.core.last c.args.conn.now.state.streams)
    (note_of c.loop-frame.self.notes) _ (streams-none _ c.loop-frame.rest.now (sym c.in_default.ensures)) c.loop-frame.invariant.notes

pub returns-clause-changes : goal.returns-clause-changes
returns-clause-changes g c =
    let none : length c.args.item.now.sent.now - c.loop-frame._frame ≡ 0 =
    omega (arith, c.loop-frame-test.false) in
    none_left _ c.loop-frame.out.items c.args.item.now.number (stream_at c.args.conn.now.state.core.last c.args.conn.now.state.streams)
    c.args.item.now.after.counts.send (note_of c.loop-frame.self.notes) _ (streams-zero _ c.loop-frame.rest.now none) c.loop-frame.invariant.changes

pub returns-clause-notes : goal.returns-clause-notes
returns-clause-notes g c =
    let none : length c.args.item.now.sent.now - c.loop-frame._frame ≡ 0 =
    omega (arith, c.loop-frame-test.false) in
    none_noted _ c.args.item.now.number (stream_at c.args.conn.now.state.core.last c.args.conn.now.state.streams)
    (note_of c.loop-frame.self.notes) _ (streams-zero _ c.loop-frame.rest.now none) c.loop-frame.invariant.notes
