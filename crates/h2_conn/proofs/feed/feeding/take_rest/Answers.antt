use Rattle.std.proofs.Common.{◌≡◌, ◌∙◌, false, true, drop, sym, ap}
use Rattle.h2_conn.specs.Connection.{awaits_preface, is_ended}
use Rattle.h2_conn.proofs.FeedingLaws.{fits-awaited, fits-more, is_over-none}
use Rattle.h2_conn.proofs.Items.{fits-ended, none-after}
use Rattle.h2_conn.proofs.Runs.{halted-halts, if_err, left-same, ran-feeds, ran-goes, ran-halted, stop-none}
use Rattle.h2_conn.proofs.feed.feeding.take_rest.Goals as goal

pub returns-in_err-all-clause-err : goal.returns-in_err-all-clause-err
returns-in_err-all-clause-err g c = if_err c.from_residual.result (halted-halts _ _ _ _ _ _ c.in_err-all.ensures.err)

pub returns-then-is_ended-clause-ok : goal.returns-then-is_ended-clause-ok
returns-then-is_ended-clause-ok g c =
    let ended : is_ended c.take_all.new.state.core.phase ≡ true = rw c.phase-phase.ensures at (sym c.is_ended.ensures ∙ c.if-is_ended.true) in
    rw (left-same c.take_all.new.state.core.phase c.args.splitter.now.octets (drop c.in_ok-all.all.used c.args.octets.now) ended)
    (ran-feeds _ _ _ _ _ _ _ _ c.in_ok-all.ensures.ok)

pub returns-then-is_ended-clause-rest : goal.returns-then-is_ended-clause-rest
returns-then-is_ended-clause-rest g c =
    let t = c.take_all.new.state in
    let ended : is_ended t.core.phase ≡ true = rw c.phase-phase.ensures at (sym c.is_ended.ensures ∙ c.if-is_ended.true) in
    (fits-ended t.core.phase c.args.splitter.now ended, stop-none t c.args.splitter.now.octets (none-after t c.args.splitter.now.octets ended))

pub returns-in_err-push-clause-err : goal.returns-in_err-push-clause-err
returns-in_err-push-clause-err g c = if_err c.from_residual-in_err-push.result (halted-halts _ _ _ _ _ _ (ran-halted _ _ _ _ _ _ _ c.in_ok-all.ensures.ok))

pub returns-clause-ok : goal.returns-clause-ok
returns-clause-ok g c = rw (c.in_ok-push.ensures.ok, c.expect_preface.ensures, c.octets_from.ensures, c.requires.empty) (ran-feeds _ _ _ _ _ _ _ _ c.in_ok-all.ensures.ok)

pub returns-clause-rest : goal.returns-clause-rest
returns-clause-rest g c =
    let t = c.take_all.new.state in
    let ran = c.in_ok-all.ensures.ok in
    let goes : is_ended t.core.phase ≡ false = rw c.phase-phase.ensures at (sym c.is_ended.ensures ∙ c.if-is_ended.false) in
    let over = is_over-none c.args.state.now.core.phase c.args.splitter.now c.requires.fits (ran-goes _ _ _ _ _ _ _ ran goes) in
    let awaited : c.awaits_preface.result ≡ awaits_preface t.core.phase = c.awaits_preface.ensures ∙ ap awaits_preface c.phase-phase.ensures in (
      rw (c.in_ok-push.ensures.ok, c.expect_preface.ensures, awaited) (fits-more t.core.phase (record c.args.splitter.now { expects_preface = awaits_preface t.core.phase }) c.octets_from.result.now (fits-awaited t.core.phase c.args.splitter.now over)),
      rw (c.in_ok-push.ensures.ok, c.expect_preface.ensures, c.octets_from.ensures, c.requires.empty) (stop-none t (drop c.in_ok-all.all.used c.args.octets.now) ran.stops),
    )
