use Rattle.std.proofs.Common.{◌≡◌, ◌∙◌, ◌++◌, ◌+◌, ℕ, List, [], length, take, drop, ap, arith, length-drop}
use Rattle.std.proofs.lemmas.Result.{IfOk-from_err}
use Rattle.h2_frame.specs.Rest.{Rest}
use Rattle.h2_spec.specs.Frames.Frame.{NoItem}
use Rattle.h2_spec.specs.Trace.{left_by, next_item}
use Rattle.h2_conn.specs.Connection.{going}
use Rattle.h2_conn.specs.Runs.{TakesOne}
use Rattle.h2_conn.proofs.FeedingLaws.{fits-more, held-all, held-offered, offered-taken, short-none, some-missing}
use Rattle.h2_conn.proofs.Runs.{if_err, stop-none}
use Rattle.h2_conn.proofs.Shortest.{octet-rest, waits-all}
use Rattle.h2_conn.proofs.feed.feeding.complete.Given.{Over}
use Rattle.h2_conn.proofs.feed.feeding.complete.Goals as goal

-- the item that the octets complete
taken : (g : Over) (c : goal.Then-branch g)
    → TakesOne (going c.args.state.now (left_by c.args.state.now.core.phase c.args.splitter.now.octets)) c.args.piece.now (g.O.Outgoing.octets c.args.out.now) (going c.offer.new.state (left_by c.offer.new.state.core.phase c.offer.new.splitter.octets)) (g.O.Outgoing.octets c.offer.new.out) (c.loop-splitter.used + c.missing-count.result)
    × (c.offer.new.splitter.octets ≡ [])
taken g c =
    let i = c.loop-splitter.invariant in
    let fits = rw i.same at i.fits in
    let none = rw i.same at i.none in
    let value = rw c.limit-limit.ensures.value at c.missing-count.ensures.value in
    let fewer = rw c.limit-limit.ensures.value at c.missing-count.ensures.fewer in
    let some = rw (← value) at (some-missing c.args.state.now c.loop-splitter.splitter fits c.requires.goes none) in
    let takes = rw (c.if-branch.true, c.octets_up_to.ensures, c.octets_from-rest.ensures, i.same, i.quiet) at c.in_ok-offer.ensures.ok in
    offered-taken c.args.state.now c.offer.new.state c.loop-splitter.splitter c.args.splitter.now.octets c.args.piece.now c.offer.new.splitter.octets (g.O.Outgoing.octets c.args.out.now) (g.O.Outgoing.octets c.offer.new.out)
    c.loop-splitter.used c.missing-count.result c.missing-count.result fits c.requires.goes i.held some (omega arith)
    (omega (arith, i.within, c.if-rest-count.false, length-drop c.loop-splitter.used c.args.piece.now, ap length c.octets_from-rest.ensures)) fewer takes

pub returns-then-branch-clause-ok : goal.returns-then-branch-clause-ok
returns-then-branch-clause-ok g c = (taken g c).0

pub returns-then-branch-clause-rest : goal.returns-then-branch-clause-rest
returns-then-branch-clause-rest g c = (c.in_ok-offer.ensures.fits, octet-rest c.offer.new.state c.offer.new.splitter.octets (taken g c).1)

pub returns-then-branch-clause-empty : goal.returns-then-branch-clause-empty
returns-then-branch-clause-empty g c = λ e. (taken g c).1

-- where fewer octets come than are missing, all are held and there is no item
waits : (g : Over) (c : goal.In_ok-push g) → next_item c.args.state.now (c.args.splitter.now.octets ++ c.args.piece.now) ≡ NoItem
waits g c =
    let i = c.loop-splitter.invariant in
    let fewer = rw c.limit-limit.ensures.value at c.missing-count.ensures.fewer in
    short-none c.args.state.now c.loop-splitter.splitter c.args.splitter.now.octets c.args.piece.now c.loop-splitter.used c.missing-count.result (rw i.same at i.fits) c.requires.goes i.held
    (omega (arith, c.if-rest-count.true, ap length c.octets_from-rest.ensures)) fewer

held : (g : Over) (c : goal.In_ok-push g) → c.push.new.self.octets ≡ c.args.splitter.now.octets ++ c.args.piece.now
held g c =
    ap (λ (r : Rest). r.octets) c.in_ok-push.ensures.ok ∙ ap (λ (b : List ℕ). c.loop-splitter.splitter.octets ++ b) c.octets_from-rest.ensures
    ∙ held-all c.args.splitter.now.octets c.args.piece.now c.loop-splitter.splitter.octets c.loop-splitter.used c.loop-splitter.invariant.held

pub returns-then-rest-count-clause-ok : goal.returns-then-rest-count-clause-ok
returns-then-rest-count-clause-ok g c =
    rw (c.loop-splitter.invariant.same, c.loop-splitter.invariant.quiet, held g c)
    (waits-all c.args.state.now c.args.splitter.now.octets c.args.piece.now (g.O.Outgoing.octets c.args.out.now) c.requires.goes (waits g c))

pub returns-then-rest-count-clause-rest : goal.returns-then-rest-count-clause-rest
returns-then-rest-count-clause-rest g c = (
  rw c.in_ok-push.ensures.ok (fits-more c.loop-splitter.state.core.phase c.loop-splitter.splitter c.octets_from-rest.result.now c.loop-splitter.invariant.fits),
  rw (c.loop-splitter.invariant.same, held g c) (waits g c),
)

pub loop-splitter-smaller : goal.loop-splitter-smaller
loop-splitter-smaller g c =
    let i = c.loop-splitter.invariant in
    let fits = rw i.same at i.fits in
    let none = rw i.same at i.none in
    let some = rw (← c.limit-limit.ensures.value, ← c.missing-count.ensures.value) at (some-missing c.args.state.now c.loop-splitter.splitter fits c.requires.goes none) in
    omega (arith, some, i.within, c.if-rest-count.false, length-drop c.loop-splitter.used c.args.piece.now, ap length c.octets_from-rest.ensures)

pub loop-splitter-preserved : goal.loop-splitter-preserved
loop-splitter-preserved g c =
    let i = c.loop-splitter.invariant in
    let none = rw (c.if-branch.false, c.octets_up_to.ensures, c.octets_from-rest.ensures) at c.in_ok-offer.ensures.ok in
    record {
      fits = c.in_ok-offer.ensures.fits;
      held = none.2 ∙ held-offered c.args.splitter.now.octets c.args.piece.now c.loop-splitter.splitter.octets c.loop-splitter.used c.missing-count.result i.held;
      same = none.1 ∙ i.same;
      quiet = none.3 ∙ i.quiet;
      none = rw (none.1, none.2) (stop-none c.loop-splitter.state (c.loop-splitter.splitter.octets ++ take c.missing-count.result (drop c.loop-splitter.used c.args.piece.now)) none.0);
      within = omega (arith, i.within, c.if-rest-count.false, length-drop c.loop-splitter.used c.args.piece.now, ap length c.octets_from-rest.ensures);
    }

pub returns-in_err-push-clause-ok : goal.returns-in_err-push-clause-ok
returns-in_err-push-clause-ok g c = IfOk-from_err c.from_residual.result _ c.from_residual.ensures.0

pub returns-in_err-push-clause-rest : goal.returns-in_err-push-clause-rest
returns-in_err-push-clause-rest g c = IfOk-from_err c.from_residual.result _ c.from_residual.ensures.0

pub returns-in_err-push-clause-empty : goal.returns-in_err-push-clause-empty
returns-in_err-push-clause-empty g c = IfOk-from_err c.from_residual.result _ c.from_residual.ensures.0

pub returns-in_err-push-clause-within : goal.returns-in_err-push-clause-within
returns-in_err-push-clause-within g c = IfOk-from_err c.from_residual.result _ c.from_residual.ensures.0

pub returns-in_err-push-clause-err : goal.returns-in_err-push-clause-err
returns-in_err-push-clause-err g c = if_err c.from_residual.result (c.loop-splitter.invariant.same, c.loop-splitter.invariant.quiet)

pub returns-in_err-offer-clause-ok : goal.returns-in_err-offer-clause-ok
returns-in_err-offer-clause-ok g c = IfOk-from_err c.from_residual-in_err-offer.result _ c.from_residual-in_err-offer.ensures.0

pub returns-in_err-offer-clause-rest : goal.returns-in_err-offer-clause-rest
returns-in_err-offer-clause-rest g c = IfOk-from_err c.from_residual-in_err-offer.result _ c.from_residual-in_err-offer.ensures.0

pub returns-in_err-offer-clause-empty : goal.returns-in_err-offer-clause-empty
returns-in_err-offer-clause-empty g c = IfOk-from_err c.from_residual-in_err-offer.result _ c.from_residual-in_err-offer.ensures.0

pub returns-in_err-offer-clause-within : goal.returns-in_err-offer-clause-within
returns-in_err-offer-clause-within g c = IfOk-from_err c.from_residual-in_err-offer.result _ c.from_residual-in_err-offer.ensures.0

pub returns-in_err-offer-clause-err : goal.returns-in_err-offer-clause-err
returns-in_err-offer-clause-err g c = if_err c.from_residual-in_err-offer.result (c.in_err-offer.ensures.err.0 ∙ c.loop-splitter.invariant.same, c.in_err-offer.ensures.err.1 ∙ c.loop-splitter.invariant.quiet)
