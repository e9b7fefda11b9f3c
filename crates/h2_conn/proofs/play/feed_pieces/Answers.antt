use Rattle.std.proofs.Common.{ap, arith}
use Rattle.std.proofs.Math.Seq.{take-length}
use Rattle.h2_conn.specs.Connection.{Connection}
use Rattle.h2_conn.proofs.Plays.{fed-going, fed-kept, fed-none, piece-fed, rest-fed}
use Rattle.h2_conn.proofs.play.feed_pieces.Goals as goal

pub loop-length-init : goal.loop-length-init
loop-length-init g c = record {
  within = omega arith;
  going = ap (λ (d : Connection). d.failed) c.requires;
  fed = fed-none c.args.conn.now (g.O.Outgoing.octets c.args.out.now) c.requires;
  kept = take-length (g.O.Outgoing.octets c.args.out.now);
}

pub loop-length-preserved : goal.loop-length-preserved
loop-length-preserved g c = record {
  within = omega arith;
  going = fed-going c.loop-length.conn c.feed.new.self _ _ _ (c.in_ok-feed.field-0, c.in_ok-feed.ensures.ok);
  fed = piece-fed c.args.conn.now c.loop-length.conn c.feed.new.self c.args.octets.now c.loop-length.at c.min-count.result _ _ _ _ c.octets_at.ensures c.loop-length.invariant.fed
      (c.in_ok-feed.field-0, c.in_ok-feed.ensures.ok);
  kept = fed-kept c.loop-length.conn c.feed.new.self _ (g.O.Outgoing.octets c.args.out.now) (g.O.Outgoing.octets c.loop-length.out) (g.O.Outgoing.octets c.feed.new.out) (c.in_ok-feed.field-0, c.in_ok-feed.ensures.ok) c.loop-length.invariant.kept;
}

pub returns-clause-ok : goal.returns-clause-ok
returns-clause-ok g c =
    rest-fed c.args.conn.now c.loop-length.conn c.feed-2.new.self c.args.octets.now c.loop-length.at _ _ _ _ c.octets_from.ensures c.loop-length.invariant.fed
    (c.in_ok-feed-2.field-0, c.in_ok-feed-2.ensures.ok)
