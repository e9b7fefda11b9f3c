use Rattle.std.proofs.Common.{rules}
use Rattle.h2_spec.specs.WindowUpdate.{window_outcome}
use Rattle.h2_conn_rules.proofs.window_update.window_outcome.Goals as goal

pub returns-then-overflows-clause-rule : goal.returns-then-overflows-clause-rule
unfolding window_outcome
returns-then-overflows-clause-rule c = search rules

pub returns-then-increment-eq0-clause-sound : goal.returns-then-increment-eq0-clause-sound
returns-then-increment-eq0-clause-sound c = λ f within sound. c.stream_error.ensures.sound f

pub returns-then-increment-eq0-clause-waits : goal.returns-then-increment-eq0-clause-waits
returns-then-increment-eq0-clause-waits c = λ book has. c.stream_error.ensures.waits book

pub returns-then-overflows-clause-sound : goal.returns-then-overflows-clause-sound
returns-then-overflows-clause-sound c = λ f within sound. c.stream_error-then-overflows.ensures.sound f

pub returns-then-overflows-clause-waits : goal.returns-then-overflows-clause-waits
returns-then-overflows-clause-waits c = λ book has. c.stream_error-then-overflows.ensures.waits book

pub returns-clause-sound : goal.returns-clause-sound
returns-clause-sound c = c.raised.ensures.sound

pub returns-clause-waits : goal.returns-clause-waits
returns-clause-waits c = c.raised.ensures.waits
