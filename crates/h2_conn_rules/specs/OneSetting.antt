-- One setting of a SETTINGS frame, and all of them, where the greatest send window is tested for all (RFC 9113, 6.5
-- and 6.9.2).
use Rattle.std.specs.Prelude.{ℕ, List, Result, Ok}
use Rattle.h2_spec.specs.declared.causes.Cause.{Cause}
use Rattle.h2_spec.specs.declared.flow.Settings.{Settings}
use Rattle.h2_spec.specs.declared.streams.Stream.{Stream}
use Rattle.h2_spec.specs.Settings.{with_setting}
use Rattle.h2_spec.specs.SettingsFrame.{setting_next}

-- the settings after one of them, where they were `from` before the frame
unfoldable pub one_setting : List Stream → Settings → Settings → ℕ → ℕ → Result Settings Cause
unfolding with_setting
one_setting streams from now id value = setting_next streams from (with_setting now id value) (λ next. Ok next)
