use Rattle.std.proofs.Common.{rules, ap, sym, ◌∙◌, Result, Err, ℤ}
use Rattle.h2_spec.specs.declared.causes.Cause.{Cause}
use Rattle.h2_spec.specs.declared.errors.FlowFault.{FlowFault}
use Rattle.h2_spec.specs.declared.flow.Settings.{Settings}
use Rattle.h2_spec.specs.Change.{moved_by}
use Rattle.h2_conn_rules.specs.OneSetting.{one_setting}
use Rattle.h2_conn_rules.proofs.SettingsLaws.{one-refused, one-taken}
use Rattle.h2_conn_rules.proofs.settings.one_setting.Goals as goal

pub returns-then-overflows : goal.returns-then-overflows
unfolding one_setting
returns-then-overflows c = search rules

pub returns-else-overflows : goal.returns-else-overflows
returns-else-overflows c = λ streams greatest.
    let a = c.args in
    let fits = greatest (moved_by a.from.window c.apply.new.self.window) ∙ sym c.overflows.ensures ∙ c.if-overflows.false in
    one-taken streams a.from a.now c.apply.new.self a.id a.value c.in-Ok.field-0 (sym c.apply.ensures.answer ∙ c.in-Ok.is) c.apply.ensures.settings fits

pub returns-in-Err-BadSetting : goal.returns-in-Err-BadSetting
returns-in-Err-BadSetting c = λ streams greatest.
    let a = c.args in
    let refused = c.in-Err-BadSetting in
    let is = sym c.apply.ensures.answer ∙ refused.is ∙ ap (λ (f : FlowFault). let r : Result ℤ FlowFault = Err f in r) refused.field-0-is in
    ap (λ (cause : Cause). let r : Result Settings Cause = Err cause in r) refused.cause-is ∙ one-refused streams a.from a.now a.id a.value refused.cause is
