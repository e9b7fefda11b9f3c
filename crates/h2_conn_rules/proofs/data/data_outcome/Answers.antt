use Rattle.std.proofs.Common.{rules, ◌∙◌, length, sym, ap}
use Rattle.h2_spec.specs.Requests.Answer.{picked}
use Rattle.h2_spec.specs.Data.{data_outcome, taken}
use Rattle.h2_spec.specs.declared.streams.Stream.{Stream}
use Rattle.h2_conn_rules.proofs.data.data_outcome.Goals as goal

pub returns-then-exceeds-clause-rule : goal.returns-then-exceeds-clause-rule
unfolding data_outcome
returns-then-exceeds-clause-rule c = rw (← c.exceeds.ensures, c.if-exceeds.true) c.stream_error.ensures.rule

pub returns-then-incoming-clause-rule : goal.returns-then-incoming-clause-rule
unfolding data_outcome
returns-then-incoming-clause-rule c = search rules

pub returns-else-incoming-clause-rule : goal.returns-else-incoming-clause-rule
unfolding data_outcome
returns-else-incoming-clause-rule c = search rules

pub returns-then-incoming-clause-sound : goal.returns-then-incoming-clause-sound
returns-then-incoming-clause-sound c = λ f within sound. c.peer_ended.ensures.sound f within (c.taken-after.ensures.sound f sound)

pub returns-else-incoming-clause-sound : goal.returns-else-incoming-clause-sound
returns-else-incoming-clause-sound c = λ f within sound. c.returned.ensures.sound f within (c.taken-after.ensures.sound f sound)

pub returns-else-incoming-clause-waits : goal.returns-else-incoming-clause-waits
returns-else-incoming-clause-waits c = λ book same has. c.returned.ensures.waits book (c.taken-after.ensures.waits book has)

pub returns-then-incoming-clause-waits : goal.returns-then-incoming-clause-waits
unfolding taken
returns-then-incoming-clause-waits c = λ book same has.
    c.peer_ended.ensures.waits book (same ∙ ap (λ (st : Stream). length (picked book st.pick).body) (sym c.taken-after.ensures.rule)) (c.taken-after.ensures.waits book has)

pub returns-then-exceeds-clause-sound : goal.returns-then-exceeds-clause-sound
returns-then-exceeds-clause-sound c = λ f within sound. c.stream_error.ensures.sound f

pub returns-then-exceeds-clause-waits : goal.returns-then-exceeds-clause-waits
returns-then-exceeds-clause-waits c = λ book same has. c.stream_error.ensures.waits book

pub returns-in-Some-clause-sound : goal.returns-in-Some-clause-sound
returns-in-Some-clause-sound c = λ f within sound. c.stream_error-in-Some.ensures.sound f

pub returns-in-Some-clause-waits : goal.returns-in-Some-clause-waits
returns-in-Some-clause-waits c = λ book same has. c.stream_error-in-Some.ensures.waits book

pub returns-in-Some-clause-rule : goal.returns-in-Some-clause-rule
unfolding data_outcome
returns-in-Some-clause-rule c = rw (← c.exceeds.ensures, c.if-exceeds.false, ← c.content_with-content_received.ensures, ← c.length_broken.ensures, c.in-Some.is) c.stream_error-in-Some.ensures.rule
