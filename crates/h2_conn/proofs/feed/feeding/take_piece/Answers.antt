use Rattle.std.proofs.Common.{◌≡◌, ◌∙◌, ℕ, List, [], true, false, true≢false, subst, sym}
use Rattle.std.specs.Prelude.{IfOk, OnErr}
use Rattle.std.proofs.lemmas.Bool.{not-false, not-true}
use Rattle.std.proofs.lemmas.List.{nil_from_length}
use Rattle.std.proofs.lemmas.Result.{IfOk-from_err}
use Rattle.h2_spec.specs.Trace.{left_by}
use Rattle.h2_conn.specs.Connection.{going, halted, is_ended}
use Rattle.h2_conn.specs.Runs.{Feeds, Halts}
use Rattle.h2_conn.proofs.FeedingLaws.{held-feeds, held-halts, one-taken, one-waits, waits-feeds}
use Rattle.h2_conn.proofs.Runs.{ended-feeds, halts-at-once, if_err, left-going}
use Rattle.h2_conn.proofs.feed.feeding.take_piece.Goals as goal

pub returns-then-is_ended-clause-ok : goal.returns-then-is_ended-clause-ok
returns-then-is_ended-clause-ok g c =
    let ended : is_ended c.args.state.now.core.phase ≡ true = rw c.phase.ensures at (sym c.is_ended.ensures ∙ c.if-is_ended.true) in
    ended-feeds c.args.state.now c.args.splitter.now.octets c.args.piece.now (g.O.Outgoing.octets c.args.out.now) ended

pub returns-in_err-one-clause-err : goal.returns-in_err-one-clause-err
returns-in_err-one-clause-err g c =
    let same = c.in_err-one.ensures.err in
    if_err c.from_residual.result (rw (same.0, same.1) (halts-at-once c.args.state.now _ c.args.piece.now (g.O.Outgoing.octets c.args.out.now)))

pub returns-then-not-one-clause-ok : goal.returns-then-not-one-clause-ok
returns-then-not-one-clause-ok g c = waits-feeds _ _ _ _ _ _ (one-waits _ _ _ _ _ c.in_ok-one.one (not-true c.in_ok-one.one.item c.if-not-one.true) c.in_ok-one.ensures.ok)

pub returns-in_err-count-clause-err : goal.returns-in_err-count-clause-err
returns-in_err-count-clause-err g c =
    let goes : is_ended c.args.state.now.core.phase ≡ false = rw c.phase.ensures at (sym c.is_ended.ensures ∙ c.if-is_ended.false) in
    let item = not-false c.in_ok-one.one.item c.if-not-one.false in
    let one = one-taken _ _ _ _ _ c.in_ok-one.one item c.in_ok-one.ensures.ok in
    if_err c.from_residual-in_err-count.result
    (held-halts _ _ _ c.args.splitter.now.octets c.complete.new.splitter.octets _ _ _ _ _ goes c.requires.1 (c.in_ok-one.ensures.empty item) one (rw c.octets_from.ensures at c.in_err-count.ensures.err))

pub returns-clause-ok : goal.returns-clause-ok
returns-clause-ok g c =
    let goes : is_ended c.args.state.now.core.phase ≡ false = rw c.phase.ensures at (sym c.is_ended.ensures ∙ c.if-is_ended.false) in
    let item = not-false c.in_ok-one.one.item c.if-not-one.false in
    let one = one-taken _ _ _ _ _ c.in_ok-one.one item c.in_ok-one.ensures.ok in
    held-feeds _ _ _ c.args.splitter.now.octets c.complete.new.splitter.octets _ _ _ _ _ _ goes c.requires.1 (c.in_ok-one.ensures.empty item) one (rw c.octets_from.ensures at c.in_ok-count.ensures.ok)

pub returns-then-is_ended-clause-rest : goal.returns-then-is_ended-clause-rest
returns-then-is_ended-clause-rest g c = c.requires

pub returns-then-rest_len-eq0-clause-ok : goal.returns-then-rest_len-eq0-clause-ok
returns-then-rest_len-eq0-clause-ok g c =
    let s = c.args.state.now in
    let taken = c.take_rest in
    let goes : is_ended c.args.state.now.core.phase ≡ false = rw c.phase.ensures at (sym c.is_ended.ensures ∙ c.if-is_ended.false) in
    let none : left_by s.core.phase c.args.splitter.now.octets ≡ [] = left-going s.core.phase c.args.splitter.now.octets goes ∙ nil_from_length c.args.splitter.now.octets (sym c.rest_len.ensures ∙ c.if-rest_len-eq0.true) in
    subst (λ (rest : List ℕ). IfOk taken.result (Feeds (going s rest) c.args.piece.now (g.O.Outgoing.octets c.args.out.now) (going taken.new.state (left_by taken.new.state.core.phase taken.new.splitter.octets)) (g.O.Outgoing.octets taken.new.out))) (sym none) taken.ensures.ok

pub returns-then-rest_len-eq0-clause-rest : goal.returns-then-rest_len-eq0-clause-rest
returns-then-rest_len-eq0-clause-rest g c = c.take_rest.ensures.rest

pub returns-then-rest_len-eq0-clause-err : goal.returns-then-rest_len-eq0-clause-err
returns-then-rest_len-eq0-clause-err g c =
    let s = c.args.state.now in
    let taken = c.take_rest in
    let goes : is_ended c.args.state.now.core.phase ≡ false = rw c.phase.ensures at (sym c.is_ended.ensures ∙ c.if-is_ended.false) in
    let none : left_by s.core.phase c.args.splitter.now.octets ≡ [] = left-going s.core.phase c.args.splitter.now.octets goes ∙ nil_from_length c.args.splitter.now.octets (sym c.rest_len.ensures ∙ c.if-rest_len-eq0.true) in
    subst (λ (rest : List ℕ). OnErr taken.result (Halts (going s rest) c.args.piece.now (g.O.Outgoing.octets c.args.out.now) (halted taken.new.state) (g.O.Outgoing.octets taken.new.out))) (sym none) taken.ensures.err

pub returns-then-rest_len-eq0-clause-over : goal.returns-then-rest_len-eq0-clause-over
returns-then-rest_len-eq0-clause-over g c =
    let goes : is_ended c.args.state.now.core.phase ≡ false = rw c.phase.ensures at (sym c.is_ended.ensures ∙ c.if-is_ended.false) in
    λ over. absurd (true≢false (sym over ∙ goes))

pub returns-in_err-one-clause-ok : goal.returns-in_err-one-clause-ok
returns-in_err-one-clause-ok g c = IfOk-from_err c.from_residual.result _ c.from_residual.ensures.0

pub returns-in_err-one-clause-rest : goal.returns-in_err-one-clause-rest
returns-in_err-one-clause-rest g c = IfOk-from_err c.from_residual.result _ c.from_residual.ensures.0

pub returns-in_err-one-clause-over : goal.returns-in_err-one-clause-over
returns-in_err-one-clause-over g c =
    let goes : is_ended c.args.state.now.core.phase ≡ false = rw c.phase.ensures at (sym c.is_ended.ensures ∙ c.if-is_ended.false) in
    λ over. absurd (true≢false (sym over ∙ goes))

pub returns-then-not-one-clause-rest : goal.returns-then-not-one-clause-rest
returns-then-not-one-clause-rest g c = c.in_ok-one.ensures.rest

pub returns-in_err-count-clause-ok : goal.returns-in_err-count-clause-ok
returns-in_err-count-clause-ok g c = IfOk-from_err c.from_residual-in_err-count.result _ c.from_residual-in_err-count.ensures.0

pub returns-in_err-count-clause-rest : goal.returns-in_err-count-clause-rest
returns-in_err-count-clause-rest g c = IfOk-from_err c.from_residual-in_err-count.result _ c.from_residual-in_err-count.ensures.0

pub returns-in_err-count-clause-over : goal.returns-in_err-count-clause-over
returns-in_err-count-clause-over g c =
    let goes : is_ended c.args.state.now.core.phase ≡ false = rw c.phase.ensures at (sym c.is_ended.ensures ∙ c.if-is_ended.false) in
    λ over. absurd (true≢false (sym over ∙ goes))

pub returns-clause-rest : goal.returns-clause-rest
returns-clause-rest g c = c.in_ok-count.ensures.rest
