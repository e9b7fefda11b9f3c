use Rattle.std.proofs.Common.{◌≡◌, ◌∙◌, ◌++◌, List, [], ℕ, ap, arith, drop, false, length, length-append, length-drop, refl, sym, true}
use Rattle.h2_conn.specs.Connection.{is_ended}
use Rattle.h2_conn.proofs.Runs.{halted-halts, halts-at-once, left-ended, left-going}
use Rattle.h2_explain.proofs.Steps.{all-from, fed-all, gains-none, handles}
use Rattle.h2_explain.specs.Explaining.{IsCutShort}
use Rattle.h2_explain.proofs.run_explainer.RunExplainer.complete.Goals as goal

pub returns-in-Err-clause-halted : goal.returns-in-Err-clause-halted
returns-in-Err-clause-halted g c = λ e. halts-at-once c.args.conn.now.state c.args.self.now.held.items c.args.piece.now c.args.out.now

pub returns-in-Err-take_items-clause-halted : goal.returns-in-Err-take_items-clause-halted
returns-in-Err-take_items-clause-halted g c = λ e.
    let items = rw c.replace-octets.ensures.value at c.in-Ok.ensures.items in
    let all : c.as_slice.result.now ≡ c.args.self.now.held.items ++ c.args.piece.now = c.as_slice.ensures.value ∙ items in
    halted-halts c.args.conn.now.state c.take_items.new.conn.state c.args.self.now.held.items c.args.piece.now c.args.out.now c.take_items.new.out (rw all at c.in-Err-take_items.ensures.stopped e)

pub returns-in-Err-take_items-clause-cut : goal.returns-in-Err-take_items-clause-cut
returns-in-Err-take_items-clause-cut g c = λ well.
    let items = rw c.replace-octets.ensures.value at c.in-Ok.ensures.items in
    let all : c.as_slice.result.now ≡ c.args.self.now.held.items ++ c.args.piece.now = c.as_slice.ensures.value ∙ items in
    rw all at c.in-Err-take_items.ensures.cut well

pub returns-then-is_ended-clause-ok : goal.returns-then-is_ended-clause-ok
returns-then-is_ended-clause-ok g c =
    let e = c.args.self.now in
    let b : List ℕ = e.held.items ++ c.args.piece.now in
    let rest : List ℕ = drop c.in-Ok-take_items.used b in
    let items : c.extend_from_slice.new.self.items ≡ b = rw c.replace-octets.ensures.value at c.in-Ok.ensures.items in
    let all : c.as_slice.result.now ≡ b = c.as_slice.ensures.value ∙ items in
    let left : c.without_front-rest.result.items ≡ rest = c.without_front-rest.ensures ∙ ap (λ (l : List ℕ). drop c.in-Ok-take_items.used l) items in
    let over : is_ended c.take_items.new.conn.state.core.phase ≡ true = rw c.counts.ensures at (sym c.is_ended.ensures ∙ c.if-is_ended.true) in
    let empty : c.take_items.new.self.held.items ≡ [] = rw (c.in-Ok-take_items.ensures.held.0, c.replace-octets.ensures.after) c.new.ensures.items in
    handles e c.take_items.new.self _ c.args.conn.now.state c.take_items.new.conn.state b rest _ _
    (all-from e _ c.take_items.new.self c.args.conn.now.state c.take_items.new.conn.state b rest _ _ (rw all at c.in-Ok-take_items.ensures.ok) refl refl refl refl)
    refl refl refl refl (empty ∙ sym (left-ended c.take_items.new.conn.state.core.phase rest over))
    (omega (arith, ap length empty, c.in-Ok-take_items.ensures.held.1, c.len.ensures, ap length left))

pub returns-then-is_ended-clause-fed : goal.returns-then-is_ended-clause-fed
returns-then-is_ended-clause-fed g c = λ keeps.
    let b : List ℕ = c.args.self.now.held.items ++ c.args.piece.now in
    let rest : List ℕ = drop c.in-Ok-take_items.used b in
    let items : c.extend_from_slice.new.self.items ≡ b = rw c.replace-octets.ensures.value at c.in-Ok.ensures.items in
    let all : c.as_slice.result.now ≡ b = c.as_slice.ensures.value ∙ items in
    let over : is_ended c.take_items.new.conn.state.core.phase ≡ true = rw c.counts.ensures at (sym c.is_ended.ensures ∙ c.if-is_ended.true) in
    let empty : c.take_items.new.self.held.items ≡ [] = rw (c.in-Ok-take_items.ensures.held.0, c.replace-octets.ensures.after) c.new.ensures.items in
    fed-all c.args.conn.now.state c.take_items.new.conn.state c.args.self.now.held.items c.args.piece.now c.args.out.now c.take_items.new.out rest c.take_items.new.self.held.items
    (rw all at c.in-Ok-take_items.ensures.sent keeps) (empty ∙ sym (left-ended c.take_items.new.conn.state.core.phase rest over))

pub returns-else-is_ended-clause-ok : goal.returns-else-is_ended-clause-ok
returns-else-is_ended-clause-ok g c =
    let e = c.args.self.now in
    let b : List ℕ = e.held.items ++ c.args.piece.now in
    let rest : List ℕ = drop c.in-Ok-take_items.used b in
    let items : c.extend_from_slice.new.self.items ≡ b = rw c.replace-octets.ensures.value at c.in-Ok.ensures.items in
    let all : c.as_slice.result.now ≡ b = c.as_slice.ensures.value ∙ items in
    let left : c.without_front-rest.result.items ≡ rest = c.without_front-rest.ensures ∙ ap (λ (l : List ℕ). drop c.in-Ok-take_items.used l) items in
    let goes : is_ended c.take_items.new.conn.state.core.phase ≡ false = rw c.counts.ensures at (sym c.is_ended.ensures ∙ c.if-is_ended.false) in
    handles e c.take_items.new.self _ c.args.conn.now.state c.take_items.new.conn.state b rest _ _
    (all-from e _ c.take_items.new.self c.args.conn.now.state c.take_items.new.conn.state b rest _ _ (rw all at c.in-Ok-take_items.ensures.ok) refl refl refl refl)
    refl refl refl refl (left ∙ sym (left-going c.take_items.new.conn.state.core.phase rest goes))
    (omega (arith, c.in-Ok-take_items.ensures.held.1, ap length left))

pub returns-else-is_ended-clause-fed : goal.returns-else-is_ended-clause-fed
returns-else-is_ended-clause-fed g c = λ keeps.
    let b : List ℕ = c.args.self.now.held.items ++ c.args.piece.now in
    let rest : List ℕ = drop c.in-Ok-take_items.used b in
    let items : c.extend_from_slice.new.self.items ≡ b = rw c.replace-octets.ensures.value at c.in-Ok.ensures.items in
    let all : c.as_slice.result.now ≡ b = c.as_slice.ensures.value ∙ items in
    let left : c.without_front-rest.result.items ≡ rest = c.without_front-rest.ensures ∙ ap (λ (l : List ℕ). drop c.in-Ok-take_items.used l) items in
    let goes : is_ended c.take_items.new.conn.state.core.phase ≡ false = rw c.counts.ensures at (sym c.is_ended.ensures ∙ c.if-is_ended.false) in
    fed-all c.args.conn.now.state c.take_items.new.conn.state c.args.self.now.held.items c.args.piece.now c.args.out.now c.take_items.new.out rest c.without_front-rest.result.items
    (rw all at c.in-Ok-take_items.ensures.sent keeps) (left ∙ sym (left-going c.take_items.new.conn.state.core.phase rest goes))

pub returns-in-Err-clause-cut : goal.returns-in-Err-clause-cut
returns-in-Err-clause-cut g c = λ well.
    gains-none (IsCutShort c.args.self.now c.args.conn.now.state (c.args.self.now.held.items ++ c.args.piece.now)) (λ later. ([], refl)) (g.O.Output.written c.args.output.now) _ refl

pub take_items-requires-clause-few : goal.take_items-requires-clause-few
take_items-requires-clause-few g c =
    let items = rw c.replace-octets.ensures.value at c.in-Ok.ensures.items in
    let all : c.as_slice.result.now ≡ c.args.self.now.held.items ++ c.args.piece.now = c.as_slice.ensures.value ∙ items in
    (c.requires.room.0, omega (arith, c.requires.room.1, ap length all, length-append c.args.self.now.held.items c.args.piece.now))

pub without_front-rest-requires : goal.without_front-rest-requires
without_front-rest-requires g c = omega (arith, c.in-Ok-take_items.ensures.within, ap length c.as_slice.ensures.value)

pub overflow_add-self : goal.overflow_add-self
overflow_add-self g c =
    let items = rw c.replace-octets.ensures.value at c.in-Ok.ensures.items in
    let long = ap length c.without_front-rest.ensures ∙ length-drop c.in-Ok-take_items.used c.extend_from_slice.new.self.items in
    omega (arith, c.requires.room.1, c.in-Ok-take_items.ensures.held.1, c.len.ensures, long, ap length items, length-append c.args.self.now.held.items c.args.piece.now)
