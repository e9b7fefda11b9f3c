use Rattle.h2_conn.proofs.GrantedLaws.{within-grants}
use Rattle.h2_conn.proofs.Plays.{opened}
use Rattle.h2_conn.proofs.play.open_and_feed.Goals as goal

pub returns-clause-ok : goal.returns-clause-ok
returns-clause-ok g c =
    let a = c.args in
    opened a.book.now a.config a.octets.now (g.O.Outgoing.octets a.out.now) (g.O.Outgoing.octets c.new.new.out) (g.O.Outgoing.octets c.feed_or_cut.new.out) c.in_ok-conn.conn c.feed_or_cut.new.conn c.in_ok-conn.ensures.opened c.in_ok-conn.ensures.sent c.in_ok-feed_or_cut.ensures.ok

pub returns-clause-grants : goal.returns-clause-grants
returns-clause-grants g c =
    let a = c.args in
    let opens = opened a.book.now a.config a.octets.now (g.O.Outgoing.octets a.out.now) (g.O.Outgoing.octets c.new.new.out) (g.O.Outgoing.octets c.feed_or_cut.new.out) c.in_ok-conn.conn c.feed_or_cut.new.conn c.in_ok-conn.ensures.opened c.in_ok-conn.ensures.sent c.in_ok-feed_or_cut.ensures.ok in
    within-grants a.book.now a.config a.octets.now (g.O.Outgoing.octets a.out.now) (g.O.Outgoing.octets c.feed_or_cut.new.out) opens.sent
