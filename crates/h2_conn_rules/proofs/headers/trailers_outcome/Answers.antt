use Rattle.h2_spec.specs.Requests.Headers.{trailers_outcome}
use Rattle.h2_conn_rules.proofs.headers.trailers_outcome.Goals as goal

pub returns-then-is_too_large-clause-rule : goal.returns-then-is_too_large-clause-rule
unfolding trailers_outcome
returns-then-is_too_large-clause-rule c = rw (← c.is_too_large.ensures, c.if-is_too_large.true) c.stream_error.ensures.rule

pub returns-then-is_too_large-clause-sound : goal.returns-then-is_too_large-clause-sound
returns-then-is_too_large-clause-sound c = λ f within sound. c.stream_error.ensures.sound f

pub returns-then-is_too_large-clause-waits : goal.returns-then-is_too_large-clause-waits
returns-then-is_too_large-clause-waits c = λ book same has. c.stream_error.ensures.waits book

pub returns-in-Some-clause-rule : goal.returns-in-Some-clause-rule
unfolding trailers_outcome
returns-in-Some-clause-rule c = rw (← c.is_too_large.ensures, c.if-is_too_large.false, ← c.trailers_broken.ensures, c.in-Some.is) c.stream_error-in-Some.ensures.rule

pub returns-in-Some-clause-sound : goal.returns-in-Some-clause-sound
returns-in-Some-clause-sound c = λ f within sound. c.stream_error-in-Some.ensures.sound f

pub returns-in-Some-clause-waits : goal.returns-in-Some-clause-waits
returns-in-Some-clause-waits c = λ book same has. c.stream_error-in-Some.ensures.waits book

pub returns-clause-rule : goal.returns-clause-rule
unfolding trailers_outcome
returns-clause-rule c = rw (← c.is_too_large.ensures, c.if-is_too_large.false, ← c.trailers_broken.ensures, c.in_default.is) c.peer_ended.ensures.rule

pub returns-clause-sound : goal.returns-clause-sound
returns-clause-sound c = c.peer_ended.ensures.sound

pub returns-clause-waits : goal.returns-clause-waits
returns-clause-waits c = c.peer_ended.ensures.waits
