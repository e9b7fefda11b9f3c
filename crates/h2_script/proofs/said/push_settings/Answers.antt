use Rattle.std.proofs.Common.{◌≡◌, ◌∙◌, ◌++◌, List, ℕ, take, ap, sym, arith, string_bytes}
use Rattle.std.proofs.lemmas.List.{take_all}
use Rattle.h2_frame.specs.Parts.{settings_in}
use Rattle.h2_spec.specs.Texts.Written.{each_text, setting_text}
use Rattle.h2_script.proofs.Written.{settings_next}
use Rattle.h2_script.proofs.said.push_settings.Goals as goal

pub loop-place-preserved : goal.loop-place-preserved
loop-place-preserved g c =
    settings_next _ _ _ _ c.loop-place.place (settings_in c.args.settings) c.pair_at.result c.loop-place.invariant c.in_ok-push_comma.ensures c.in_ok-push_setting.ensures c.pair_at.ensures

pub returns : goal.returns
returns g c =
    let whole = take_all c.loop-place.place (settings_in c.args.settings) (omega (arith, c.loop-place-test.false, c.count-place-end.ensures)) in
    c.loop-place.invariant ∙ ap (λ (ps : List (ℕ × ℕ)). string_bytes c.args.out.now ++ each_text setting_text ps) whole
