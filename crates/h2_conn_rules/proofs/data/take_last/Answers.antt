use Rattle.std.proofs.Common.{length, sym, ap, ◌∙◌}
use Rattle.h2_spec.specs.declared.reactions.Change.{Change}
use Rattle.h2_spec.specs.declared.reactions.Reaction.TheVariants.{Continues}
use Rattle.h2_spec.specs.declared.reactions.StreamOutcome.{StreamOutcome}
use Rattle.h2_spec.specs.declared.streams.Stream.{Stream}
use Rattle.h2_spec.specs.Requests.Answer.{picked}
use Rattle.h2_spec.specs.Change.{with_outcome}
use Rattle.h2_spec.specs.Data.{counted, taken}
use Rattle.h2_spec.specs.Requests.StreamEnds.{peer_ended}
use Rattle.h2_conn_rules.specs.Sound.{in_force}
use Rattle.h2_conn_rules.proofs.PlainLaws.{last-rule, takes-live}
use Rattle.h2_conn_rules.proofs.SoundLaws.{live-put, live-recorded}
use Rattle.h2_conn_rules.proofs.data.take_last.Goals as goal

pub returns-clause-rule : goal.returns-clause-rule
returns-clause-rule c =
    let a = c.args in
    ap (λ (change : Change). Continues change) (c.with_outcome.ensures.rule ∙ ap (λ (change : Change). with_outcome change c.peer_ended-outcome.result) c.counted-change.ensures.rule
    ∙ ap (λ (o : StreamOutcome). with_outcome (counted a.config.credit a.core a.incoming.octets) o) (c.peer_ended-outcome.ensures.rule ∙ ap (λ (st : Stream). peer_ended a.body st) c.taken.ensures.rule))
    ∙ sym (last-rule a.config a.core a.body a.incoming a.stream c.requires.takes c.requires.ends)

pub returns-clause-sound : goal.returns-clause-sound
unfolding taken
returns-clause-sound c = λ book r picks has found last.
    let a = c.args in
    let f = in_force a.core in
    let live = takes-live a.core a.incoming a.stream c.requires.takes in
    let outcome = c.peer_ended-outcome in
    let put = live-put r a.stream outcome.result.stream found live (outcome.ensures.id ∙ c.taken.ensures.id) in
    c.with_outcome.ensures.sound book r a.core c.counted-change.ensures.calm
    (sym last ∙ put.1) (outcome.ensures.sound f c.requires.core.1 (c.taken.ensures.sound f c.requires.stream)) (outcome.ensures.waits book (picks ∙ ap (λ (st : Stream). length (picked book st.pick).body) (sym c.taken.ensures.rule)) (c.taken.ensures.waits book has)) put.0
    (outcome.ensures.recorded (c.taken.ensures.recorded (live-recorded a.stream.kind live)))
