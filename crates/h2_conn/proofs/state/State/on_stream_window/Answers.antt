use Rattle.std.proofs.Common.{◌∙◌, refl, subst, sym}
use Rattle.h2_spec.specs.Change.{frames_of, with_outcome}
use Rattle.h2_spec.specs.Effect.{on_window}
use Rattle.h2_spec.specs.State.{State}
use Rattle.h2_spec.specs.Stream.{stream_at}
use Rattle.h2_conn.specs.Blocks.{IsStopped}
use Rattle.h2_conn.proofs.ApplyChangeLaws.{settles-quietly}
use Rattle.h2_conn.proofs.QuietLaws.{puts, raised-waits, raises-rule}
use Rattle.h2_conn_send.proofs.AloneLaws.{none-put, none-ready}
use Rattle.h2_conn_send.specs.Sending.{open_window}
use Rattle.h2_streams.specs.Raised.{raised}
use Rattle.h2_conn.proofs.state.State.on_stream_window.Goals as goal

pub raise-requires-clause-stopped : goal.raise-requires-clause-stopped
raise-requires-clause-stopped g c = subst (λ (x : State). IsStopped x.block) (sym c.look_up.ensures.same) c.requires.stopped

-- nothing is sent
pub returns-then-only_raises : goal.returns-then-only_raises
unfolding frames_of with_outcome
returns-then-only_raises g c =
    let s = c.look_up.new.self in
    let n = c.args.increment in
    let st = stream_at s.core.last s.streams c.args.id in
    let idle = none-ready (open_window s.core) s.streams (c.only_raises.ensures.idle c.if-only_raises.true) in
    let none = none-put (open_window s.core) (raised n st) s.streams (raised-waits n st ∙ c.only_raises.ensures.nothing c.if-only_raises.true) idle in
    rw (sym c.look_up.ensures.same) (settles-quietly s c.raise.new.self (puts s.core (raised n st)) (on_window s.core n st) _ (g.O.Outgoing.octets c.args.out.now)
    (raises-rule s.core n st (c.only_raises.ensures.raises c.if-only_raises.true)) refl refl none c.raise.ensures)

-- looking the record up changes nothing
pub returns : goal.returns
returns g c = rw c.look_up.ensures.same at c.on_other_window.ensures
