use Rattle.std.proofs.Common.{sym, ◌∙◌, ap, rules}
use Rattle.h2_spec.specs.declared.reactions.Change.{Change}
use Rattle.h2_frame.specs.Parts.{settings_in}
use Rattle.h2_conn_rules.proofs.SettingsLaws.{applied-sound}
use Rattle.h2_spec.specs.SettingsFrame.{settings_rule}
use Rattle.h2_conn_rules.proofs.settings.settings_rule.Goals as goal

pub returns-in-Ok-clause-sound : goal.returns-in-Ok-clause-sound
returns-in-Ok-clause-sound c = λ book r greatest state.
    let taken = sym (c.settings_applied.ensures r.streams greatest) ∙ c.in-Ok.is in
    applied-sound book c.args.core c.only_counts-change.result.core r c.in-Ok.peer (settings_in c.args.part) state taken (ap (λ (x : Change). x.core) c.only_counts-change.ensures)

pub returns-in-Ok-clause-rule : goal.returns-in-Ok-clause-rule
unfolding settings_rule
returns-in-Ok-clause-rule c = search rules
