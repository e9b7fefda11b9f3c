use Rattle.std.proofs.Common.{◌≡◌, ◌∙◌, ◌++◌, List, [], ℕ, ap, arith, drop, false, length, length-drop, refl, subst, sym, true}
use Rattle.h2_conn.specs.Connection.{is_ended}
use Rattle.h2_conn.proofs.Runs.{halted-halts, left-ended, left-going, ran-halted}
use Rattle.h2_explain.proofs.Steps.{fed-all, handles, on-cut}
use Rattle.h2_explain.specs.Explaining.{ExplainsAll}
use Rattle.h2_explain.proofs.run_explainer.RunExplainer.take_in_hand.Goals as goal

pub returns-in-Err-clause-halted : goal.returns-in-Err-clause-halted
returns-in-Err-clause-halted g c = λ keeps.
    rw c.requires.empty (halted-halts c.args.conn.now.state c.take_items.new.conn.state [] c.args.piece.now c.args.out.now c.take_items.new.out (c.in-Err.ensures.stopped keeps))

pub returns-in-Err-clause-cut : goal.returns-in-Err-clause-cut
returns-in-Err-clause-cut g c = λ well. rw c.requires.empty (c.in-Err.ensures.cut well)

pub returns-then-is_ended-clause-fed : goal.returns-then-is_ended-clause-fed
returns-then-is_ended-clause-fed g c = λ keeps.
    let rest : List ℕ = drop c.in-Ok.used c.args.piece.now in
    let over : is_ended c.take_items.new.conn.state.core.phase ≡ true = rw c.counts.ensures at (sym c.is_ended.ensures ∙ c.if-is_ended.true) in
    let empty : c.take_items.new.self.held.items ≡ [] = rw c.in-Ok.ensures.held.0 c.requires.empty in
    fed-all c.args.conn.now.state c.take_items.new.conn.state c.args.self.now.held.items c.args.piece.now c.args.out.now c.take_items.new.out rest c.take_items.new.self.held.items
    (rw c.requires.empty (c.in-Ok.ensures.sent keeps)) (empty ∙ sym (left-ended c.take_items.new.conn.state.core.phase rest over))

pub returns-in-Ok-extend_from_slice-clause-fed : goal.returns-in-Ok-extend_from_slice-clause-fed
returns-in-Ok-extend_from_slice-clause-fed g c = λ keeps.
    let rest : List ℕ = drop c.in-Ok.used c.args.piece.now in
    let goes : is_ended c.take_items.new.conn.state.core.phase ≡ false = rw c.counts.ensures at (sym c.is_ended.ensures ∙ c.if-is_ended.false) in
    let empty : c.take_items.new.self.held.items ≡ [] = rw c.in-Ok.ensures.held.0 c.requires.empty in
    let left : c.take_items.new.self.held.items ++ c.octets_from-rest.result.now ≡ rest = rw empty c.octets_from-rest.ensures in
    fed-all c.args.conn.now.state c.take_items.new.conn.state c.args.self.now.held.items c.args.piece.now c.args.out.now c.take_items.new.out rest c.extend_from_slice.new.self.items
    (rw c.requires.empty (c.in-Ok.ensures.sent keeps)) (c.in-Ok-extend_from_slice.ensures.items ∙ left ∙ sym (left-going c.take_items.new.conn.state.core.phase rest goes))

pub returns-in-Err-extend_from_slice-clause-halted : goal.returns-in-Err-extend_from_slice-clause-halted
returns-in-Err-extend_from_slice-clause-halted g c = λ keeps.
    let ran = c.in-Ok.ensures.sent keeps in
    rw c.requires.empty (halted-halts c.args.conn.now.state c.take_items.new.conn.state [] c.args.piece.now c.args.out.now c.take_items.new.out
    (ran-halted c.args.conn.now.state c.take_items.new.conn.state c.args.piece.now c.args.out.now (drop c.in-Ok.used c.args.piece.now) c.take_items.new.out ran.0 ran.1))

pub returns-in-Err-extend_from_slice-clause-cut : goal.returns-in-Err-extend_from_slice-clause-cut
returns-in-Err-extend_from_slice-clause-cut g c = λ well.
    rw c.requires.empty (on-cut c.args.self.now c.take_items.new.self c.args.conn.now.state c.take_items.new.conn.state c.args.piece.now (drop c.in-Ok.used c.args.piece.now)
    (g.O.Output.written c.args.output.now) (g.O.Output.written c.take_items.new.output) c.in-Ok.ensures.ok.on)

pub take_items-requires-clause-few : goal.take_items-requires-clause-few
take_items-requires-clause-few g c = (c.requires.room.0, omega (arith, c.requires.room.1))

pub overflow_add-self : goal.overflow_add-self
overflow_add-self g c = omega (arith, c.in-Ok.ensures.held.1, c.requires.room.1, ap length c.octets_from-rest.ensures, length-drop c.in-Ok.used c.args.piece.now)

pub returns-then-is_ended-clause-ok : goal.returns-then-is_ended-clause-ok
returns-then-is_ended-clause-ok g c =
    let e = c.args.self.now in
    let b : List ℕ = e.held.items ++ c.args.piece.now in
    let rest : List ℕ = drop c.in-Ok.used c.args.piece.now in
    let all : c.args.piece.now ≡ b = rw c.requires.empty refl in
    let over : is_ended c.take_items.new.conn.state.core.phase ≡ true = rw c.counts.ensures at (sym c.is_ended.ensures ∙ c.if-is_ended.true) in
    let empty : c.take_items.new.self.held.items ≡ [] = rw c.in-Ok.ensures.held.0 c.requires.empty in
    handles e c.take_items.new.self _ c.args.conn.now.state c.take_items.new.conn.state b rest _ _
    (subst (λ (d : List ℕ). ExplainsAll e c.args.conn.now.state d (g.O.Output.written c.args.output.now) c.take_items.new.self c.take_items.new.conn.state rest (g.O.Output.written c.take_items.new.output)) all c.in-Ok.ensures.ok)
    refl refl refl refl (empty ∙ sym (left-ended c.take_items.new.conn.state.core.phase rest over))
    (omega (arith, ap length empty, c.in-Ok.ensures.held.1, ap length c.octets_from-rest.ensures))

pub returns-in-Ok-extend_from_slice-clause-ok : goal.returns-in-Ok-extend_from_slice-clause-ok
returns-in-Ok-extend_from_slice-clause-ok g c =
    let e = c.args.self.now in
    let b : List ℕ = e.held.items ++ c.args.piece.now in
    let rest : List ℕ = drop c.in-Ok.used c.args.piece.now in
    let all : c.args.piece.now ≡ b = rw c.requires.empty refl in
    let goes : is_ended c.take_items.new.conn.state.core.phase ≡ false = rw c.counts.ensures at (sym c.is_ended.ensures ∙ c.if-is_ended.false) in
    let empty : c.take_items.new.self.held.items ≡ [] = rw c.in-Ok.ensures.held.0 c.requires.empty in
    let left : c.take_items.new.self.held.items ++ c.octets_from-rest.result.now ≡ rest = rw empty c.octets_from-rest.ensures in
    let held = c.in-Ok-extend_from_slice.ensures.items ∙ left in
    handles e c.take_items.new.self _ c.args.conn.now.state c.take_items.new.conn.state b rest _ _
    (subst (λ (d : List ℕ). ExplainsAll e c.args.conn.now.state d (g.O.Output.written c.args.output.now) c.take_items.new.self c.take_items.new.conn.state rest (g.O.Output.written c.take_items.new.output)) all c.in-Ok.ensures.ok)
    refl refl refl refl (held ∙ sym (left-going c.take_items.new.conn.state.core.phase rest goes))
    (omega (arith, c.in-Ok.ensures.held.1, ap length held))
