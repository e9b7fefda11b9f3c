use Rattle.std.proofs.Common.{refl}
use Rattle.h2_conn.specs.Records.{records}
use Rattle.h2_conn.proofs.CountsLaws.{leaves-by, ping-leaves, sound-by}
use Rattle.h2_conn.proofs.state.State.on_ping.Goals as goal

pub conclude_leaving_counts-requires : goal.conclude_leaving_counts-requires
conclude_leaving_counts-requires g c = let s = c.args.self.now in λ k. ((refl, tt), (c.requires.stopped, (sound-by s _ _ c.core.ensures.counts (c.on_ping-reaction.ensures.sound s.book (records s)), leaves-by _ _ _ _ c.on_ping-reaction.ensures.rule c.core.ensures.counts (ping-leaves _ _ _))))

pub returns : goal.returns
returns g c = rw (c.on_ping-reaction.ensures.rule, c.core.ensures.counts) at c.conclude_leaving_counts.ensures
