use Rattle.std.proofs.Common.{◌≡◌, ◌++◌, take, string_bytes}
use Rattle.h2_frame.specs.Parts.{settings_in}
use Rattle.h2_spec.specs.Texts.Written.{each_text, setting_text}
use Rattle.h2_script.proofs.said.push_settings.Given as goal

abbrev pub invariant-loop-place : goal.invariant-loop-place
invariant-loop-place g l =
    string_bytes l.out ≡ string_bytes l.fn.out ++ each_text setting_text (take l.place (settings_in l.settings))
