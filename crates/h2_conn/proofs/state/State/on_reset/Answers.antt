use Rattle.std.proofs.Common.{refl, subst, sym, true}
use Rattle.h2_spec.specs.Change.{frames_of, with_outcome}
use Rattle.h2_spec.specs.Effect.{on_reset}
use Rattle.h2_spec.specs.State.{State}
use Rattle.h2_spec.specs.Stream.{reset_as, stream_at}
use Rattle.h2_conn.specs.Blocks.{IsStopped}
use Rattle.h2_conn.specs.Records.{records}
use Rattle.h2_conn.proofs.ApplyChangeLaws.{settles-quietly}
use Rattle.h2_conn.proofs.CountsLaws.{leaves-by, reset-leaves, sound-by}
use Rattle.h2_conn.proofs.QuietLaws.{puts, reset-waits, resets-rule}
use Rattle.h2_conn_send.proofs.AloneLaws.{none-put, none-ready}
use Rattle.h2_conn_send.specs.Sending.{open_window}
use Rattle.h2_conn.proofs.state.State.on_reset.Goals as goal

pub reset-requires-clause-stopped : goal.reset-requires-clause-stopped
reset-requires-clause-stopped g c = subst (λ (x : State). IsStopped x.block) (sym c.only_resets.ensures.same) c.requires.stopped

pub reset-requires-clause-live : goal.reset-requires-clause-live
reset-requires-clause-live g c = c.only_resets.ensures.live c.if-only_resets.true

-- nothing is sent
pub returns-then-only_resets : goal.returns-then-only_resets
unfolding frames_of with_outcome
returns-then-only_resets g c =
    let s = c.only_resets.new.self in
    let st = stream_at s.core.last s.streams c.args.id in
    let idle = none-ready (open_window s.core) s.streams (c.only_resets.ensures.idle c.if-only_resets.true) in
    let none = none-put (open_window s.core) (reset_as true st) s.streams (reset-waits st) idle in
    rw (sym c.only_resets.ensures.same) (settles-quietly s c.reset.new.self (puts s.core (reset_as true st)) (on_reset s.core st) _ (g.O.Outgoing.octets c.args.out.now)
    (resets-rule s.core st (c.only_resets.ensures.live c.if-only_resets.true)) refl refl none c.reset.ensures)

pub conclude_leaving_counts-requires : goal.conclude_leaving_counts-requires
conclude_leaving_counts-requires g c = let s = c.only_resets.new.self in λ k. ((refl, tt), (subst (λ (x : State). IsStopped x.block) (sym c.only_resets.ensures.same) c.requires.stopped, (sound-by s _ _ c.core.ensures.counts (c.on_reset-reaction.ensures.sound s.book (records s) c.stream_at-stream.ensures.found), leaves-by _ _ _ _ c.on_reset-reaction.ensures.rule c.core.ensures.counts (reset-leaves _ _))))

-- looking the record up changes nothing
pub returns : goal.returns
returns g c = rw (c.on_reset-reaction.ensures.rule, c.core.ensures.counts, c.stream_at-stream.ensures.value, c.only_resets.ensures.same) at c.conclude_leaving_counts.ensures
