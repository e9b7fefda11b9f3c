use Rattle.std.proofs.Common.{◌+◌, ap, sym, ◌∙◌, drop, arith}
use Rattle.std.proofs.lemmas.List.{drop_all}
use Rattle.std.proofs.lemmas.Result.{err_from_is_err_and}
use Rattle.h2_frame.specs.Parts.{settings_in}
use Rattle.h2_spec.specs.SettingsFrame.{settings_applied}
use Rattle.h2_conn_rules.proofs.SettingsLaws.{applied-ok, applied-err, applied-none, drop-at}
use Rattle.h2_conn_rules.proofs.settings.settings_applied.Goals as goal

pub returns-in_err-now : goal.returns-in_err-now
returns-in_err-now c = λ streams is.
    let a = c.args in
    let l = c.loop-place in
    let ps = settings_in a.part in
    let pair = c.pair_at-id.result in
    let now = sym (c.one_setting.ensures streams is) ∙ c.in_err-now.was in
    let p = err_from_is_err_and c.from_residual.result c.from_residual.ensures.1 in
    rw (p.1, p.2) (sym (sym (l.invariant streams is) ∙ ap (λ qs. settings_applied streams a.from l.now qs) (drop-at l.place ps pair c.pair_at-id.ensures) ∙ applied-err streams a.from l.now c.in_err-now.field-0.0 pair.0 pair.1 (drop (l.place + 1) ps) now))

pub loop-place-preserved : goal.loop-place-preserved
loop-place-preserved c = λ streams is.
    let a = c.args in
    let l = c.loop-place in
    let ps = settings_in a.part in
    let pair = c.pair_at-id.result in
    let now = sym (c.one_setting.ensures streams is) ∙ c.in_ok-now.was in
    sym (ap (λ qs. settings_applied streams a.from l.now qs) (drop-at l.place ps pair c.pair_at-id.ensures) ∙ applied-ok streams a.from l.now c.in_ok-now.now pair.0 pair.1 (drop (l.place + 1) ps) now) ∙ l.invariant streams is

pub returns : goal.returns
returns c = λ streams is.
    let a = c.args in
    let l = c.loop-place in
    let done = c.loop-place-test.false in
    let count = c.count-place-end.ensures in
    let none = drop_all l.place (settings_in a.part) (omega (arith, done, count)) in
    sym (sym (l.invariant streams is) ∙ ap (λ qs. settings_applied streams a.from l.now qs) none ∙ applied-none streams a.from l.now)
