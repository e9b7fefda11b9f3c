use Rattle.h2_spec.specs.Requests.Headers.{request_outcome}
use Rattle.h2_conn_rules.specs.Sound.{in_force}
use Rattle.h2_conn_rules.proofs.headers.request_outcome.Goals as goal

pub returns-then-is_full-clause-rule : goal.returns-then-is_full-clause-rule
unfolding request_outcome
returns-then-is_full-clause-rule c = rw (← c.is_full.ensures, c.if-is_full.true) c.stream_error.ensures.rule

pub returns-then-is_too_large-clause-rule : goal.returns-then-is_too_large-clause-rule
unfolding request_outcome
returns-then-is_too_large-clause-rule c =
    rw (← c.is_full.ensures, c.if-is_full.false, ← c.is_too_large.ensures, c.if-is_too_large.true) c.stream_error-then-is_too_large.ensures.rule

pub returns-in-Some-clause-rule : goal.returns-in-Some-clause-rule
unfolding request_outcome
returns-in-Some-clause-rule c =
    rw (← c.is_full.ensures, c.if-is_full.false, ← c.is_too_large.ensures, c.if-is_too_large.false, ← c.request_broken.ensures, c.in-Some.is) c.stream_error-in-Some.ensures.rule

pub returns-clause-rule : goal.returns-clause-rule
unfolding request_outcome
returns-clause-rule c =
    rw (← c.is_full.ensures, c.if-is_full.false, ← c.is_too_large.ensures, c.if-is_too_large.false, ← c.request_broken.ensures, c.in_default.is) c.opened.ensures.rule

pub returns-then-is_full-clause-sound : goal.returns-then-is_full-clause-sound
returns-then-is_full-clause-sound c = c.stream_error.ensures.sound (in_force c.args.core)

pub returns-then-is_full-clause-waits : goal.returns-then-is_full-clause-waits
returns-then-is_full-clause-waits c = λ book same pick. c.stream_error.ensures.waits book

pub returns-then-is_too_large-clause-sound : goal.returns-then-is_too_large-clause-sound
returns-then-is_too_large-clause-sound c = c.stream_error-then-is_too_large.ensures.sound (in_force c.args.core)

pub returns-then-is_too_large-clause-waits : goal.returns-then-is_too_large-clause-waits
returns-then-is_too_large-clause-waits c = λ book same pick. c.stream_error-then-is_too_large.ensures.waits book

pub returns-in-Some-clause-sound : goal.returns-in-Some-clause-sound
returns-in-Some-clause-sound c = c.stream_error-in-Some.ensures.sound (in_force c.args.core)

pub returns-in-Some-clause-waits : goal.returns-in-Some-clause-waits
returns-in-Some-clause-waits c = λ book same pick. c.stream_error-in-Some.ensures.waits book

pub returns-clause-sound : goal.returns-clause-sound
returns-clause-sound c = c.opened.ensures.sound

pub returns-clause-waits : goal.returns-clause-waits
returns-clause-waits c = c.opened.ensures.waits
