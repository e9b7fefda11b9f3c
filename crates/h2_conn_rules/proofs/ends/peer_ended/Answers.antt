use Rattle.std.proofs.Common.{refl, ap, sym, subst, ◌∙◌}
use Rattle.h2_spec.specs.declared.reactions.StreamOutcome.{StreamOutcome}
use Rattle.h2_spec.specs.declared.streams.Stream.{Stream}
use Rattle.h2_spec.specs.declared.streams.StreamState.{StreamState}
use Rattle.h2_spec.specs.declared.streams.StreamState.TheVariants.{Ended}
use Rattle.h2_spec.specs.Change.{outcome_without_frame}
use Rattle.h2_spec.specs.Requests.StreamEnds.{peer_ended, peer_ended_as}
use Rattle.h2_conn_rules.specs.Sound.{HasBody, IsSoundStream}
use Rattle.h2_conn_rules.proofs.SoundLaws.{half-remote-body, half-remote-sound, not-live-body, not-live-sound}
use Rattle.h2_conn_rules.proofs.ends.peer_ended.Goals as goal

pub returns-then-is_some-clause-rule : goal.returns-then-is_some-clause-rule
unfolding peer_ended
returns-then-is_some-clause-rule c = rw (c.in-BothOpen.is, ← c.is_some.ensures, c.if-is_some.true) c.outcome_without_frame.ensures.rule

pub returns-then-is_some-clause-sound : goal.returns-then-is_some-clause-sound
returns-then-is_some-clause-sound c = λ f within sound. subst (λ (o : StreamOutcome). IsSoundStream f o.stream) (sym c.outcome_without_frame.ensures.rule) (half-remote-sound f c.args.stream c.in-BothOpen.is sound)

pub returns-then-is_some-clause-waits : goal.returns-then-is_some-clause-waits
returns-then-is_some-clause-waits c = λ book same has. subst (λ (o : StreamOutcome). HasBody book o.stream) (sym c.outcome_without_frame.ensures.rule) (half-remote-body book c.args.stream c.in-BothOpen.is has)

pub returns-else-is_some-clause-rule : goal.returns-else-is_some-clause-rule
unfolding peer_ended
returns-else-is_some-clause-rule c = rw (c.in-BothOpen.is, ← c.is_some.ensures, c.if-is_some.false) c.answered.ensures.rule

pub returns-else-is_some-clause-sound : goal.returns-else-is_some-clause-sound
returns-else-is_some-clause-sound c = λ f within sound. c.answered.ensures.sound f within (half-remote-sound f c.args.stream c.in-BothOpen.is sound)

pub returns-else-is_some-clause-waits : goal.returns-else-is_some-clause-waits
returns-else-is_some-clause-waits c = λ book same has. c.answered.ensures.waits book same (half-remote-body book c.args.stream c.in-BothOpen.is has)

pub returns-in-HalfLocal-clause-rule : goal.returns-in-HalfLocal-clause-rule
unfolding peer_ended
returns-in-HalfLocal-clause-rule c =
    let now = ap (λ (st : Stream). outcome_without_frame st) c.not_live.ensures in
    c.outcome_without_frame-in-HalfLocal.ensures.rule ∙ now ∙ ap (λ (k : StreamState). peer_ended_as k c.args.body c.args.stream) (sym c.in-HalfLocal.is)

pub returns-in-HalfLocal-clause-sound : goal.returns-in-HalfLocal-clause-sound
returns-in-HalfLocal-clause-sound c = λ f within sound.
    let is = ap (λ (o : StreamOutcome). o.stream) c.outcome_without_frame-in-HalfLocal.ensures.rule ∙ c.not_live.ensures in
    subst (IsSoundStream f) (sym is) (not-live-sound f c.args.stream.id Ended refl)

pub returns-in-HalfLocal-clause-waits : goal.returns-in-HalfLocal-clause-waits
returns-in-HalfLocal-clause-waits c = λ book same has.
    let is = ap (λ (o : StreamOutcome). o.stream) c.outcome_without_frame-in-HalfLocal.ensures.rule ∙ c.not_live.ensures in
    subst (HasBody book) (sym is) (not-live-body book c.args.stream.id Ended)
