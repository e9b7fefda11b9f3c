use Rattle.std.proofs.Common.{rules}
use Rattle.h2_conn.proofs.Plays.{cut-behind}
use Rattle.h2_conn.proofs.play.feed_or_cut.Goals as goal

pub returns-in-Err-clause-cut : goal.returns-in-Err-clause-cut
returns-in-Err-clause-cut g c =
    let cut = cut-behind c.args.before (g.O.Outgoing.octets c.args.out.now) (g.O.Outgoing.octets c.feed_pieces.new.out) c.requires.within c.feed_pieces.ensures.kept in
    search (rules, cut)
