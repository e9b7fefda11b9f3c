use Rattle.std.proofs.Common.{◌∙◌, ap, subst, sym}
use Rattle.h2_spec.specs.declared.reactions.StreamOutcome.{StreamOutcome}
use Rattle.h2_conn_rules.specs.Sound.{HasBody, IsSoundStream}
use Rattle.h2_conn_rules.proofs.RaisedLaws.{raised-body, raised-sound}
use Rattle.h2_conn_rules.proofs.window_update.raised.Goals as goal

pub returns-clause-sound : goal.returns-clause-sound
returns-clause-sound c = λ f below sound.
    subst (IsSoundStream f) (sym (ap (λ (t : StreamOutcome). t.stream) c.outcome_without_frame.ensures.rule ∙ c.raise.ensures)) (raised-sound f c.args.increment c.args.stream c.requires sound)

pub returns-clause-waits : goal.returns-clause-waits
returns-clause-waits c = λ book has.
    subst (HasBody book) (sym (ap (λ (t : StreamOutcome). t.stream) c.outcome_without_frame.ensures.rule ∙ c.raise.ensures)) (raised-body book c.args.increment c.args.stream has)
