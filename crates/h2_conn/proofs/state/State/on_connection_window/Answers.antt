use Rattle.std.proofs.Common.{refl}
use Rattle.h2_conn.specs.Records.{records}
use Rattle.h2_conn.proofs.CountsLaws.{counted-by, sound-by, window-counted}
use Rattle.h2_conn.proofs.state.State.on_connection_window.Goals as goal

pub conclude_in_place-requires : goal.conclude_in_place-requires
conclude_in_place-requires g c = let s = c.args.self.now in λ k. ((refl, tt), (c.requires.stopped, (sound-by s _ _ c.core.ensures.counts (c.connection_window-reaction.ensures.sound s.book (records s)), counted-by _ _ _ _ c.connection_window-reaction.ensures.rule c.core.ensures.counts (window-counted _ _))))

pub returns : goal.returns
returns g c = rw (c.connection_window-reaction.ensures.rule, c.core.ensures.counts) at c.conclude_in_place.ensures
