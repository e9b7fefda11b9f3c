use Rattle.std.proofs.Common.{refl}
use Rattle.h2_conn.specs.Records.{records}
use Rattle.h2_conn.proofs.CountsLaws.{leaves-by, sound-by, stream-window-leaves}
use Rattle.h2_conn.proofs.state.State.on_other_window.Goals as goal

pub conclude_leaving_counts-requires : goal.conclude_leaving_counts-requires
conclude_leaving_counts-requires g c = let s = c.args.self.now in λ k. ((refl, tt), (c.requires.stopped, (sound-by s _ _ c.core.ensures.counts (c.on_window-reaction.ensures.sound s.book (records s) c.stream_at.ensures.waits c.stream_at.ensures.found), leaves-by _ _ _ _ c.on_window-reaction.ensures.rule c.core.ensures.counts (stream-window-leaves _ _ _))))

pub returns : goal.returns
returns g c = rw (c.on_window-reaction.ensures.rule, c.core.ensures.counts, c.stream_at.ensures.value) at c.conclude_leaving_counts.ensures
