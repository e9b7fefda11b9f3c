use Rattle.std.proofs.Common.{ap, refl, subst, sym}
use Rattle.h2_spec.specs.Effect.{body_length}
use Rattle.h2_spec.specs.State.{State}
use Rattle.h2_conn.specs.Blocks.{IsStopped}
use Rattle.h2_conn.specs.Records.{records}
use Rattle.h2_conn.proofs.CountsLaws.{counted-by, data-counted, sound-by}
use Rattle.h2_conn.proofs.state.State.on_data.Goals as goal

pub conclude_in_place-requires : goal.conclude_in_place-requires
conclude_in_place-requires g c = let s = c.look_up.new.self in λ k. ((refl, tt), (subst (λ (x : State). IsStopped x.block) (sym c.look_up.ensures.same) c.requires.stopped, (sound-by s _ _ c.core.ensures.counts (c.take_last-reaction.ensures.sound s.book (records s) c.body_length-body.ensures c.stream_at-stream.ensures.waits c.stream_at-stream.ensures.found), counted-by _ _ _ _ c.take_last-reaction.ensures.rule c.core.ensures.counts (data-counted _ _ _ _ _))))

pub conclude_in_place-requires-else-incoming : goal.conclude_in_place-requires-else-incoming
conclude_in_place-requires-else-incoming g c = let s = c.look_up.new.self in λ k. ((refl, tt), (subst (λ (x : State). IsStopped x.block) (sym c.look_up.ensures.same) c.requires.stopped, (sound-by s _ _ c.core-else-incoming.ensures.counts (c.take-reaction.ensures.sound s.book (records s) c.stream_at-stream.ensures.waits c.stream_at-stream.ensures.found), counted-by _ _ _ _ (c.take-reaction.ensures.rule 0) c.core-else-incoming.ensures.counts (data-counted _ _ 0 _ _))))

-- looking the record up changes nothing
pub returns-then-incoming : goal.returns-then-incoming
returns-then-incoming g c = rw (c.take_last-reaction.ensures.rule, ap (λ (x : State). x.config) c.self.view_is, c.body_length-body.ensures, c.core.ensures.counts, c.stream_at-stream.ensures.value, c.look_up.ensures.same) at c.conclude_in_place.ensures

pub returns-else-incoming : goal.returns-else-incoming
returns-else-incoming g c = rw (c.take-reaction.ensures.rule (body_length c.look_up.new.self.book c.stream_at-stream.result), ap (λ (x : State). x.config) c.self.view_is, c.core-else-incoming.ensures.counts, c.stream_at-stream.ensures.value, c.look_up.ensures.same) at c.conclude_in_place-else-incoming.ensures

pub returns-then-not-only_takes : goal.returns-then-not-only_takes
returns-then-not-only_takes g c = rw c.look_up.ensures.same at c.on_other_data.ensures
