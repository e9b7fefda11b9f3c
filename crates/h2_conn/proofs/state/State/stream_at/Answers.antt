use Rattle.std.proofs.Common.{◌≡◌, ℕ, sym, subst, rules}
use Rattle.h2_spec.specs.declared.streams.Stream.{Stream}
use Rattle.h2_spec.specs.State.{State}
use Rattle.h2_spec.specs.Stream.{stream_at}
use Rattle.h2_conn_rules.specs.Sound.{HasBody, IsSoundStream, in_force}
use Rattle.h2_conn_rules.proofs.SoundLaws.{found-sound}
use Rattle.h2_conn.proofs.state.State.stream_at.Goals as goal

pub returns-clause-sound : goal.returns-clause-sound
returns-clause-sound g c =
    let inside = c.self.inside in
    let both = found-sound inside.book.now (in_force inside.core) inside.streams.last c.args.id inside.streams.streams c.self.invariant.0.records in
    subst (λ (s : State). IsSoundStream (in_force s.core) c.stream_at.result) c.self.view_is
    (subst (λ (st : Stream). IsSoundStream (in_force inside.core) st) (sym c.stream_at.ensures.value) both.0)

pub returns-clause-waits : goal.returns-clause-waits
returns-clause-waits g c =
    let inside = c.self.inside in
    let both = found-sound inside.book.now (in_force inside.core) inside.streams.last c.args.id inside.streams.streams c.self.invariant.0.records in
    subst (λ (s : State). HasBody s.book c.stream_at.result) c.self.view_is
    (subst (λ (st : Stream). HasBody inside.book.now st) (sym c.stream_at.ensures.value) both.1)

pub returns-clause-found : goal.returns-clause-found
returns-clause-found g c =
    let s = c.args.self.now in
    let value : c.stream_at.result ≡ stream_at s.core.last s.streams c.args.id = search rules in
    subst (λ (i : ℕ). c.stream_at.result ≡ stream_at s.core.last s.streams i) (sym c.stream_at.ensures.id) value
