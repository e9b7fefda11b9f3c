-- A stream whose send window has risen (RFC 9113, 6.9).
use Rattle.std.specs.Prelude.{ℕ, Bool, not, pos, ◌+ℤ◌}
use Rattle.h2_spec.specs.declared.streams.Stream.{Stream}
use Rattle.h2_spec.specs.Change.{with_send}
use Rattle.h2_spec.specs.Window.{is_above_max}

-- the record with an increment of its send window
abbrev pub raised : ℕ → Stream → Stream
raised increment st = with_send st (st.numbers.send +ℤ pos increment)

-- whether the window stays at most the largest one then (RFC 9113, 6.9.1)
abbrev pub can_rise : ℕ → Stream → Bool
can_rise increment st = not (is_above_max (st.numbers.send +ℤ pos increment))
