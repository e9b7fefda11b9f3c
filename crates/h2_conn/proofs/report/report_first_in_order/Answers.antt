use Rattle.std.proofs.Common.{refl}
use Rattle.h2_conn.specs.Checkpoint.{records_of}
use Rattle.h2_conn.proofs.FeedingLaws.{ended-stays, still-ready}
use Rattle.h2_conn.proofs.FirstLaws.{taken-follows}
use Rattle.h2_conn.proofs.FollowsLaws.{ordered}
use Rattle.h2_conn.proofs.report.report_first_in_order.Goals as goal

pub returns-clause-follows : goal.returns-clause-follows
returns-clause-follows g c =
    let s = c.args.state.now in
    let taken = c.report_first-taken in
    let before = c.consistent.ensures in
    taken-follows taken.result s taken.new.state c.args.octets.now (g.O.Outgoing.octets c.args.out.now) (g.O.Outgoing.octets taken.new.out) (ordered s (records_of s) refl before.sound before.rising before.opened) taken.ensures.ok

pub returns-clause-ready : goal.returns-clause-ready
returns-clause-ready g c =
    let s = c.args.state.now in
    let taken = c.report_first-taken in
    rw (c.expect_preface.ensures, c.awaits_preface.ensures, c.phase.ensures) (still-ready s taken.new.state c.args.splitter.now c.requires
    (ended-stays taken.result s taken.new.state c.args.octets.now (g.O.Outgoing.octets c.args.out.now) (g.O.Outgoing.octets taken.new.out) taken.ensures.ok taken.ensures.err))
