use Rattle.std.proofs.Common.{refl, subst}
use Rattle.h2_spec.specs.State.{State}
use Rattle.h2_conn.specs.Records.{records}
use Rattle.h2_conn_rules.specs.Sound.{IsSoundState}
use Rattle.h2_conn.proofs.state.State.core.Goals as goal

pub returns-clause-sound : goal.returns-clause-sound
returns-clause-sound g c =
    let sound = c.self.invariant.0 in
    subst (λ (s : State). IsSoundState s.book c.self.inside.core (records s)) c.self.view_is (record { counts = sound.counts; records = sound.records; last = refl })
