-- The greatest of the send windows that settings move: whether a move takes one of them too far is seen from it alone
-- (RFC 9113, 6.9.2).
use Rattle.std.specs.Prelude.{◌≡◌, Bool, false, List, Option, Some, None, ℤ, ◌+ℤ◌}
use Rattle.h2_spec.specs.declared.streams.Stream.{Stream}
use Rattle.h2_spec.specs.Window.{is_above_max}
use Rattle.h2_spec.specs.Change.{overflows}

-- whether the greatest window, if there is one, passes its limit with this move
unfoldable pub overflows_with : Option ℤ → ℤ → Bool
overflows_with None d = false
overflows_with (Some w) d = is_above_max (w +ℤ d)

abbrev pub IsGreatest : Option ℤ → List Stream → Type 0
IsGreatest greatest streams = (d : ℤ) → overflows d streams ≡ overflows_with greatest d
