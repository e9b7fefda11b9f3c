use Rattle.std.proofs.Common.{◌≡◌, true, sym, ap, subst, ◌∙◌}
use Rattle.h2_spec.specs.declared.reactions.Change.{Change}
use Rattle.h2_spec.specs.declared.reactions.Reaction.TheVariants.{Continues}
use Rattle.h2_spec.specs.declared.reactions.StreamOutcome.{StreamOutcome}
use Rattle.h2_spec.specs.declared.streams.Stream.{Stream}
use Rattle.h2_spec.specs.Change.{with_outcome}
use Rattle.h2_spec.specs.Data.{counted, returned, taken}
use Rattle.h2_spec.specs.Stream.{is_live}
use Rattle.h2_conn_rules.specs.Sound.{in_force}
use Rattle.h2_conn_rules.proofs.PlainLaws.{more-rule, takes-live}
use Rattle.h2_conn_rules.proofs.SoundLaws.{live-credit, live-put, live-recorded}
use Rattle.h2_conn_rules.proofs.data.take.Goals as goal

pub returned-outcome-requires : goal.returned-outcome-requires
unfolding taken
returned-outcome-requires c =
    let a = c.args in
    let live = takes-live a.core a.incoming a.stream c.requires.takes in
    record { credit = (live-credit (in_force a.core) c.taken.result c.requires.core.4.0 (c.taken.ensures.sound (in_force a.core) c.requires.stream) (subst (λ (st : Stream). is_live st.kind ≡ true) (sym c.taken.ensures.rule) live)).0 }

pub returns-clause-rule : goal.returns-clause-rule
returns-clause-rule c = λ body.
    let a = c.args in
    ap (λ (change : Change). Continues change) (c.with_outcome.ensures.rule ∙ ap (λ (change : Change). with_outcome change c.returned-outcome.result) c.counted-change.ensures.rule
    ∙ ap (λ (o : StreamOutcome). with_outcome (counted a.config.credit a.core a.incoming.octets) o) (c.returned-outcome.ensures.rule ∙ ap (λ (st : Stream). returned a.config.credit st) c.taken.ensures.rule))
    ∙ sym (more-rule a.config a.core body a.incoming a.stream c.requires.takes c.requires.stays)

pub returns-clause-sound : goal.returns-clause-sound
returns-clause-sound c = λ book r has found last.
    let a = c.args in
    let f = in_force a.core in
    let live = takes-live a.core a.incoming a.stream c.requires.takes in
    let outcome = c.returned-outcome in
    let put = live-put r a.stream outcome.result.stream found live (outcome.ensures.id ∙ c.taken.ensures.id) in
    c.with_outcome.ensures.sound book r a.core c.counted-change.ensures.calm
    (sym last ∙ put.1) (outcome.ensures.sound f c.requires.core.1 (c.taken.ensures.sound f c.requires.stream)) (outcome.ensures.waits book (c.taken.ensures.waits book has)) put.0
    (outcome.ensures.recorded (c.taken.ensures.recorded (live-recorded a.stream.kind live)))
