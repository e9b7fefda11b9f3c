use Rattle.std.proofs.Common.{◌∙◌, Option, option_map, subst}
use Rattle.std.specs.Prelude.{IfOk}
use Rattle.std.proofs.lemmas.Result.{IfOk-from_err}
use Rattle.h2_spec.specs.Texts.Assemble.{all_at, octets_at, setting_at}
use Rattle.h2_spec.specs.Texts.Script.{Octets, Pairs, Payload}
use Rattle.h2_script.specs.Readings.{IsBuilt}
use Rattle.h2_script.proofs.Payloads.{octets_said, payload_code, payload_hex, payload_increment, payload_instructions, payload_settings, settings_said}
use Rattle.h2_script.proofs.payload.payload_at.Goals as goal

pub returns-in_err-octets_at-in-120 : goal.returns-in_err-octets_at-in-120
returns-in_err-octets_at-in-120 g c = IfOk-from_err c.from_residual.result _ c.from_residual.ensures.0

pub returns-in_err-settings_at-in-115 : goal.returns-in_err-settings_at-in-115
returns-in_err-settings_at-in-115 g c = IfOk-from_err c.from_residual-in_err-settings_at-in-115.result _ c.from_residual-in_err-settings_at-in-115.ensures.0

pub returns-in_ok-octets_at-in-120 : goal.returns-in_ok-octets_at-in-120
returns-in_ok-octets_at-in-120 g c =
    let read = octets_at c.in-Some.rest.now in
    subst (λ (p : Option Payload). IsBuilt c.whole.result p)
    (payload_hex c.args.text.now c.in-Some.rest.now c.in-Some.form.now c.in-Some.ensures.cases.0 c.in-120.is)
    (c.whole.ensures (option_map Octets read) (c.in_ok-octets_at-in-120.ensures ∙ octets_said read))

pub returns-in_ok-settings_at-in-115 : goal.returns-in_ok-settings_at-in-115
returns-in_ok-settings_at-in-115 g c =
    let read = all_at setting_at c.in-Some.rest.now in
    subst (λ (p : Option Payload). IsBuilt c.whole-in-115.result p)
    (payload_settings c.args.text.now c.in-Some.rest.now c.in-Some.form.now c.in-Some.ensures.cases.0 c.in-115.is)
    (c.whole-in-115.ensures (option_map Pairs read) (c.in_ok-settings_at-in-115.ensures ∙ settings_said read))

pub returns-in-119 : goal.returns-in-119
returns-in-119 g c =
    subst (λ (p : Option Payload). IfOk c.increment_at.result (λ o. IsBuilt o p))
    (payload_increment c.args.text.now c.in-Some.rest.now c.in-Some.form.now c.in-Some.ensures.cases.0 c.in-119.is) c.increment_at.ensures

pub returns-in-99 : goal.returns-in-99
returns-in-99 g c =
    subst (λ (p : Option Payload). IfOk c.code_at.result (λ o. IsBuilt o p))
    (payload_code c.args.text.now c.in-Some.rest.now c.in-Some.form.now c.in-Some.ensures.cases.0 c.in-99.is) c.code_at.ensures

pub returns-in-104 : goal.returns-in-104
returns-in-104 g c =
    subst (λ (p : Option Payload). IfOk c.instructions_at.result (λ o. IsBuilt o p))
    (payload_instructions c.args.text.now c.in-Some.rest.now c.in-Some.form.now c.in-Some.ensures.cases.0 c.in-104.is) c.instructions_at.ensures
