use Rattle.std.proofs.Common.{◌∙◌, ap, length, subst, sym}
use Rattle.h2_spec.specs.Requests.Answer.{picked}
use Rattle.h2_spec.specs.Requests.StreamEnds.{answered, peer_ended}
use Rattle.h2_spec.specs.Change.{outcome_without_frame}
use Rattle.h2_spec.specs.declared.reactions.StreamOutcome.{StreamOutcome}
use Rattle.h2_spec.specs.declared.streams.Stream.{Stream}
use Rattle.h2_conn_rules.specs.Sound.{HasBody, IsSoundStream, in_force}
use Rattle.h2_conn_rules.proofs.headers.opened.Goals as goal

pub returns-then-ends-clause-rule : goal.returns-then-ends-clause-rule
returns-then-ends-clause-rule c = rw c.if-ends.true (c.peer_ended.ensures.rule ∙ ap (peer_ended c.args.body) c.new_stream-stream.ensures.rule)

pub returns-then-early-clause-rule : goal.returns-then-early-clause-rule
returns-then-early-clause-rule c = rw (c.if-ends.false, c.if-early.true) (c.answered.ensures.rule ∙ ap (answered c.args.body) c.new_stream-stream.ensures.rule)

pub returns-else-early-clause-rule : goal.returns-else-early-clause-rule
returns-else-early-clause-rule c = rw (c.if-ends.false, c.if-early.false) (c.outcome_without_frame.ensures.rule ∙ ap outcome_without_frame c.new_stream-stream.ensures.rule)

pub returns-then-ends-clause-sound : goal.returns-then-ends-clause-sound
returns-then-ends-clause-sound c = c.peer_ended.ensures.sound (in_force c.args.core) c.requires.core.1 c.new_stream-stream.ensures.sound

pub returns-then-ends-clause-waits : goal.returns-then-ends-clause-waits
returns-then-ends-clause-waits c = λ book same is.
    c.peer_ended.ensures.waits book (same ∙ ap (λ (st : Stream). length (picked book st.pick).body) (sym c.new_stream-stream.ensures.rule)) (c.new_stream-stream.ensures.waits book is)

pub returns-then-early-clause-sound : goal.returns-then-early-clause-sound
returns-then-early-clause-sound c = c.answered.ensures.sound (in_force c.args.core) c.requires.core.1 c.new_stream-stream.ensures.sound

pub returns-then-early-clause-waits : goal.returns-then-early-clause-waits
returns-then-early-clause-waits c = λ book same is.
    c.answered.ensures.waits book (same ∙ ap (λ (st : Stream). length (picked book st.pick).body) (sym c.new_stream-stream.ensures.rule)) (c.new_stream-stream.ensures.waits book is)

pub returns-else-early-clause-sound : goal.returns-else-early-clause-sound
returns-else-early-clause-sound c = subst (λ (t : StreamOutcome). IsSoundStream (in_force c.args.core) t.stream) (sym c.outcome_without_frame.ensures.rule) c.new_stream-stream.ensures.sound

pub returns-else-early-clause-waits : goal.returns-else-early-clause-waits
returns-else-early-clause-waits c = λ book same is.
    subst (λ (t : StreamOutcome). HasBody book t.stream) (sym c.outcome_without_frame.ensures.rule) (c.new_stream-stream.ensures.waits book is)
