use Rattle.std.proofs.Common.{◌≡◌, ◌++◌, ℕ, List, sym, subst}
use Rattle.h2_spec.specs.Frames.Frame.{NoItem}
use Rattle.h2_spec.specs.Trace.{next_item}
use Rattle.h2_frame.specs.Items.{with_more}
use Rattle.h2_conn.proofs.FeedingLaws.{fits-more, fits-past}
use Rattle.h2_conn.proofs.Runs.{stop-none}
use Rattle.h2_conn.proofs.Shortest.{octet-rest}
use Rattle.h2_conn.proofs.feed.feeding.take_in_hand.Goals as goal

pub returns-in-Some-clause-rest : goal.returns-in-Some-clause-rest
returns-in-Some-clause-rest g c =
    let first = rw c.in-Some.is at c.in_ok-used.ensures.ok in
    rw c.expect_preface.ensures (
      fits-past c.args.state.now c.take_first.new.state c.args.splitter.now _ _ _ _ c.requires.rest.0 c.requires.goes first,
      octet-rest c.take_first.new.state c.args.splitter.now.octets c.requires.empty,
    )

pub returns-in_ok-push-in-None-clause-rest : goal.returns-in_ok-push-in-None-clause-rest
returns-in_ok-push-in-None-clause-rest g c =
    let x = rw c.in-None.is at c.in_ok-used.ensures.ok in
    let pushed : c.push.new.self ≡ with_more c.args.splitter.now c.args.piece.now = c.in_ok-push-in-None.ensures.ok in
    rw (pushed, x.same) (
      fits-more c.args.state.now.core.phase c.args.splitter.now c.args.piece.now c.requires.rest.0,
      subst (λ (b : List ℕ). next_item c.args.state.now (b ++ c.args.piece.now) ≡ NoItem) (sym c.requires.empty) (stop-none c.args.state.now c.args.piece.now x.none),
    )
