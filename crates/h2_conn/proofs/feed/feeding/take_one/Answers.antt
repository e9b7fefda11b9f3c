use Rattle.std.proofs.Common.{◌≡◌, ◌∙◌, ℕ, List, [], false, true≢false, subst, sym}
use Rattle.std.specs.Prelude.{IfOk}
use Rattle.std.proofs.lemmas.List.{nil_from_length}
use Rattle.h2_spec.specs.Trace.{left_by}
use Rattle.h2_conn.specs.Connection.{going, is_ended}
use Rattle.h2_conn.specs.Runs.{FeedsOne}
use Rattle.h2_conn.proofs.Runs.{left-going}
use Rattle.h2_conn.proofs.Shortest.{waits-ended}
use Rattle.h2_conn.proofs.feed.feeding.take_one.Goals as goal

pub returns-then-is_ended-clause-ok : goal.returns-then-is_ended-clause-ok
returns-then-is_ended-clause-ok g c =
    waits-ended c.args.state.now c.args.splitter.now.octets c.args.piece.now (g.O.Outgoing.octets c.args.out.now) (rw c.phase.ensures at (sym c.is_ended.ensures ∙ c.if-is_ended.true))

pub returns-then-is_ended-clause-rest : goal.returns-then-is_ended-clause-rest
returns-then-is_ended-clause-rest g c = c.requires

pub returns-then-rest_len-eq0-clause-ok : goal.returns-then-rest_len-eq0-clause-ok
returns-then-rest_len-eq0-clause-ok g c =
    let s = c.args.state.now in
    let taken = c.take_in_hand in
    let goes : is_ended s.core.phase ≡ false = rw c.phase.ensures at (sym c.is_ended.ensures ∙ c.if-is_ended.false) in
    let none : left_by s.core.phase c.args.splitter.now.octets ≡ [] = left-going s.core.phase c.args.splitter.now.octets goes ∙ nil_from_length c.args.splitter.now.octets (sym c.rest_len.ensures ∙ c.if-rest_len-eq0.true) in
    subst (λ (rest : List ℕ). IfOk taken.result (FeedsOne (going s rest) c.args.piece.now (g.O.Outgoing.octets c.args.out.now) (going taken.new.state (left_by taken.new.state.core.phase taken.new.splitter.octets)) (g.O.Outgoing.octets taken.new.out))) (sym none) taken.ensures.ok

pub returns-then-rest_len-eq0-clause-rest : goal.returns-then-rest_len-eq0-clause-rest
returns-then-rest_len-eq0-clause-rest g c = c.take_in_hand.ensures.rest

pub returns-then-rest_len-eq0-clause-err : goal.returns-then-rest_len-eq0-clause-err
returns-then-rest_len-eq0-clause-err g c = c.take_in_hand.ensures.err

pub returns-then-rest_len-eq0-clause-over : goal.returns-then-rest_len-eq0-clause-over
returns-then-rest_len-eq0-clause-over g c =
    let goes : is_ended c.args.state.now.core.phase ≡ false = rw c.phase.ensures at (sym c.is_ended.ensures ∙ c.if-is_ended.false) in
    λ over. absurd (true≢false (sym over ∙ goes))

pub returns-clause-ok : goal.returns-clause-ok
returns-clause-ok g c = c.complete.ensures.ok

pub returns-clause-rest : goal.returns-clause-rest
returns-clause-rest g c = c.complete.ensures.rest

pub returns-clause-err : goal.returns-clause-err
returns-clause-err g c = c.complete.ensures.err

pub returns-clause-over : goal.returns-clause-over
returns-clause-over g c =
    let goes : is_ended c.args.state.now.core.phase ≡ false = rw c.phase.ensures at (sym c.is_ended.ensures ∙ c.if-is_ended.false) in
    λ over. absurd (true≢false (sym over ∙ goes))
