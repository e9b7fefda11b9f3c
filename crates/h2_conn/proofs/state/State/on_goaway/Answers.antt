use Rattle.std.proofs.Common.{refl}
use Rattle.h2_conn.specs.Records.{records}
use Rattle.h2_conn.proofs.CountsLaws.{sound-by}
use Rattle.h2_conn.proofs.state.State.on_goaway.Goals as goal

pub conclude-requires : goal.conclude-requires
conclude-requires g c = let s = c.args.self.now in λ k. ((refl, tt), (c.requires.stopped, sound-by s _ _ c.core.ensures.counts (c.on_goaway-reaction.ensures.sound s.book (records s))))

pub returns : goal.returns
returns g c = rw (c.on_goaway-reaction.ensures.rule, c.core.ensures.counts) at c.conclude.ensures
