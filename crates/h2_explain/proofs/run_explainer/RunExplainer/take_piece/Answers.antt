use Rattle.std.proofs.Common.{◌≡◌, ◌∙◌, ap, arith, false, length, sym, true}
use Rattle.std.proofs.lemmas.Result.{on_err_weaker, on_ok_weaker}
use Rattle.h2_conn.specs.Connection.{is_ended}
use Rattle.h2_explain.proofs.Steps.{explaining-cut, explaining-goes, explaining-says, handles-room, late-feeds, late-goes, late-says}
use Rattle.h2_explain.proofs.run_explainer.RunExplainer.take_piece.Goals as goal

pub returns-then-is_ended-clause-goes : goal.returns-then-is_ended-clause-goes
returns-then-is_ended-clause-goes g c = λ s b x.
    let over : is_ended c.args.conn.now.state.core.phase ≡ true = rw c.counts.ensures at (sym c.is_ended.ensures ∙ c.if-is_ended.true) in
    late-goes s b c.args.piece.now c.args.conn.now c.args.self.now c.pass_by.new.self over c.pass_by.ensures x

pub returns-then-is_ended-clause-gains : goal.returns-then-is_ended-clause-gains
returns-then-is_ended-clause-gains g c =
    let over : is_ended c.args.conn.now.state.core.phase ≡ true = rw c.counts.ensures at (sym c.is_ended.ensures ∙ c.if-is_ended.true) in
    late-says c.args.conn.now c.args.piece.now c.args.self.now c.pass_by.new.self (g.O.Output.written c.args.output.now) over c.pass_by.ensures

pub returns-then-is_ended-clause-fed : goal.returns-then-is_ended-clause-fed
returns-then-is_ended-clause-fed g c = λ keeps.
    let over : is_ended c.args.conn.now.state.core.phase ≡ true = rw c.counts.ensures at (sym c.is_ended.ensures ∙ c.if-is_ended.true) in
    rw c.pass_by.ensures.held_is (late-feeds c.args.conn.now.state c.args.self.now.held.items c.args.piece.now c.args.out.now over)

pub returns-then-is_ended-clause-room : goal.returns-then-is_ended-clause-room
returns-then-is_ended-clause-room g c =
    let p = c.pass_by.ensures in
    (omega (arith, p.items_are, p.offset_is, c.requires.room.0), omega (arith, p.offset_is, ap length p.held_is, p.late_is))

pub returns-then-is_empty-clause-goes : goal.returns-then-is_empty-clause-goes
returns-then-is_empty-clause-goes g c =
    let goes : is_ended c.args.conn.now.state.core.phase ≡ false = rw c.counts.ensures at (sym c.is_ended.ensures ∙ c.if-is_ended.false) in
    on_ok_weaker c.take_in_hand.result
    (λ h s b x. explaining-goes s b c.args.piece.now c.args.conn.now c.take_in_hand.new.conn c.args.self.now c.take_in_hand.new.self (g.O.Output.written c.args.output.now) (g.O.Output.written c.take_in_hand.new.output) c.take_in_hand.ensures.ready goes h x)
    c.take_in_hand.ensures.ok

pub returns-then-is_empty-clause-gains : goal.returns-then-is_empty-clause-gains
returns-then-is_empty-clause-gains g c =
    let goes : is_ended c.args.conn.now.state.core.phase ≡ false = rw c.counts.ensures at (sym c.is_ended.ensures ∙ c.if-is_ended.false) in
    on_ok_weaker c.take_in_hand.result
    (explaining-says c.args.conn.now c.take_in_hand.new.conn c.args.piece.now c.args.self.now c.take_in_hand.new.self (g.O.Output.written c.args.output.now) (g.O.Output.written c.take_in_hand.new.output) goes)
    c.take_in_hand.ensures.ok

pub returns-then-is_empty-clause-cut : goal.returns-then-is_empty-clause-cut
returns-then-is_empty-clause-cut g c = λ well.
    let goes : is_ended c.args.conn.now.state.core.phase ≡ false = rw c.counts.ensures at (sym c.is_ended.ensures ∙ c.if-is_ended.false) in
    on_err_weaker c.take_in_hand.result
    (explaining-cut c.args.conn.now c.args.piece.now c.args.self.now (g.O.Output.written c.args.output.now) (g.O.Output.written c.take_in_hand.new.output) goes)
    (c.take_in_hand.ensures.cut well)

pub returns-then-is_empty-clause-room : goal.returns-then-is_empty-clause-room
returns-then-is_empty-clause-room g c =
    on_ok_weaker c.take_in_hand.result (handles-room c.args.self.now c.take_in_hand.new.self c.args.conn.now.state c.take_in_hand.new.conn.state c.args.piece.now (g.O.Output.written c.args.output.now) (g.O.Output.written c.take_in_hand.new.output)) c.take_in_hand.ensures.ok

pub returns-then-is_empty-clause-form : goal.returns-then-is_empty-clause-form
returns-then-is_empty-clause-form g c = on_ok_weaker c.take_in_hand.result (λ h. h.all.on.form_is) c.take_in_hand.ensures.ok

pub returns-else-is_empty-clause-goes : goal.returns-else-is_empty-clause-goes
returns-else-is_empty-clause-goes g c =
    let goes : is_ended c.args.conn.now.state.core.phase ≡ false = rw c.counts.ensures at (sym c.is_ended.ensures ∙ c.if-is_ended.false) in
    on_ok_weaker c.complete.result
    (λ h s b x. explaining-goes s b c.args.piece.now c.args.conn.now c.complete.new.conn c.args.self.now c.complete.new.self (g.O.Output.written c.args.output.now) (g.O.Output.written c.complete.new.output) c.complete.ensures.ready goes h x)
    c.complete.ensures.ok

pub returns-else-is_empty-clause-gains : goal.returns-else-is_empty-clause-gains
returns-else-is_empty-clause-gains g c =
    let goes : is_ended c.args.conn.now.state.core.phase ≡ false = rw c.counts.ensures at (sym c.is_ended.ensures ∙ c.if-is_ended.false) in
    on_ok_weaker c.complete.result
    (explaining-says c.args.conn.now c.complete.new.conn c.args.piece.now c.args.self.now c.complete.new.self (g.O.Output.written c.args.output.now) (g.O.Output.written c.complete.new.output) goes)
    c.complete.ensures.ok

pub returns-else-is_empty-clause-cut : goal.returns-else-is_empty-clause-cut
returns-else-is_empty-clause-cut g c = λ well.
    let goes : is_ended c.args.conn.now.state.core.phase ≡ false = rw c.counts.ensures at (sym c.is_ended.ensures ∙ c.if-is_ended.false) in
    on_err_weaker c.complete.result
    (explaining-cut c.args.conn.now c.args.piece.now c.args.self.now (g.O.Output.written c.args.output.now) (g.O.Output.written c.complete.new.output) goes)
    (c.complete.ensures.cut well)

pub returns-else-is_empty-clause-room : goal.returns-else-is_empty-clause-room
returns-else-is_empty-clause-room g c =
    on_ok_weaker c.complete.result (handles-room c.args.self.now c.complete.new.self c.args.conn.now.state c.complete.new.conn.state c.args.piece.now (g.O.Output.written c.args.output.now) (g.O.Output.written c.complete.new.output)) c.complete.ensures.ok

pub returns-else-is_empty-clause-form : goal.returns-else-is_empty-clause-form
returns-else-is_empty-clause-form g c = on_ok_weaker c.complete.result (λ h. h.all.on.form_is) c.complete.ensures.ok

pub returns-then-is_empty-clause-fed : goal.returns-then-is_empty-clause-fed
returns-then-is_empty-clause-fed g c = c.take_in_hand.ensures.fed

pub returns-then-is_empty-clause-halted : goal.returns-then-is_empty-clause-halted
returns-then-is_empty-clause-halted g c = c.take_in_hand.ensures.halted

pub returns-else-is_empty-clause-fed : goal.returns-else-is_empty-clause-fed
returns-else-is_empty-clause-fed g c = c.complete.ensures.fed

pub returns-else-is_empty-clause-halted : goal.returns-else-is_empty-clause-halted
returns-else-is_empty-clause-halted g c = c.complete.ensures.halted
