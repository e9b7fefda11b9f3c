use Rattle.std.proofs.Common.{ap, refl, subst, sym}
use Rattle.h2_spec.specs.State.{State}
use Rattle.h2_conn.specs.Blocks.{IsStopped}
use Rattle.h2_conn.specs.Records.{records}
use Rattle.h2_conn.proofs.CountsLaws.{counted-by, data-counted, sound-by}
use Rattle.h2_conn.proofs.state.State.on_other_data.Goals as goal

pub conclude_in_place-requires : goal.conclude_in_place-requires
conclude_in_place-requires g c = let s = c.look_up.new.self in λ k. ((refl, tt), (subst (λ (x : State). IsStopped x.block) (sym c.look_up.ensures.same) c.requires.stopped, (sound-by s _ _ c.core.ensures.counts (c.on_data-reaction.ensures.sound s.book (records s) c.body_length-body.ensures c.stream_at-stream.ensures.waits c.stream_at-stream.ensures.found), counted-by _ _ _ _ c.on_data-reaction.ensures.rule c.core.ensures.counts (data-counted _ _ _ _ _))))

-- looking the record up changes nothing
pub returns : goal.returns
returns g c = rw (c.on_data-reaction.ensures.rule, ap (λ (x : State). x.config) c.self.view_is, c.body_length-body.ensures, c.core.ensures.counts, c.stream_at-stream.ensures.value, c.look_up.ensures.same) at c.conclude_in_place.ensures
