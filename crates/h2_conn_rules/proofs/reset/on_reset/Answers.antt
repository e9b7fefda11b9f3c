use Rattle.std.proofs.Common.{◌≡◌, refl, sym, ◌∙◌, ap, subst}
use Rattle.h2_spec.specs.declared.reactions.StreamOutcome.{StreamOutcome}
use Rattle.h2_spec.specs.declared.streams.StreamState.TheVariants.{PeerReset}
use Rattle.h2_spec.specs.declared.streams.Stream.{Stream}
use Rattle.h2_spec.specs.Stream.{not_live}
use Rattle.h2_conn_rules.specs.Sound.{HasBody, IsCalm, IsSoundStream, in_force, is_recorded}
use Rattle.h2_conn_rules.proofs.SoundLaws.{is-live, live-put, not-live-sound, not-live-body}
use Rattle.h2_spec.specs.Effect.{on_reset}
use Rattle.h2_conn_rules.proofs.reset.on_reset.Goals as goal

pub returns-in-BothOpen-clause-sound : goal.returns-in-BothOpen-clause-sound
returns-in-BothOpen-clause-sound c = λ book r found last.
    let st = c.args.stream in
    let f = in_force c.args.core in
    let outcome = c.outcome_without_frame-outcome in
    let is : outcome.result.stream ≡ not_live st.id PeerReset = ap (λ (t : StreamOutcome). t.stream) outcome.ensures.rule ∙ c.not_live.ensures in
    let put = live-put r st outcome.result.stream found (is-live st.kind c.in-BothOpen.is) (ap (λ (x : Stream). x.id) is) in
    let calm = subst (IsCalm c.args.core) (sym c.only_counts.ensures) (c.requires.core, refl, refl) in
    c.with_outcome.ensures.sound book r c.args.core calm
    (sym last ∙ put.1) (subst (IsSoundStream f) (sym is) (not-live-sound f st.id PeerReset refl)) (subst (HasBody book) (sym is) (not-live-body book st.id PeerReset)) put.0 (ap (λ (x : Stream). is_recorded x.kind) is)

pub returns-in-Idle-clause-rule : goal.returns-in-Idle-clause-rule
unfolding on_reset
returns-in-Idle-clause-rule c = rw c.in-Idle.is refl
