-- The rule for WINDOW_UPDATE (RFC 9113, 6.9 and 6.9.1).
use Rattle.std.specs.Prelude.{ℕ, ◌==◌, if◌then◌else◌, pos, ◌+ℤ◌}
use Rattle.h2_spec.specs.declared.causes.Cause.TheVariants.{ConnectionIncrementZero, StreamIncrementZero, ConnectionWindowOverflow, StreamWindowOverflow}
use Rattle.h2_spec.specs.declared.connection.ConnectionState.{ConnectionState}
use Rattle.h2_spec.specs.declared.reactions.Reaction.{Reaction}
use Rattle.h2_spec.specs.declared.reactions.Reaction.TheVariants.{ConnectionError, Continues}
use Rattle.h2_spec.specs.declared.reactions.StreamOutcome.{StreamOutcome}
use Rattle.h2_spec.specs.declared.streams.Stream.{Stream}
use Rattle.h2_spec.specs.Window.{is_above_max}
use Rattle.h2_spec.specs.Change.{only_counts, outcome_without_frame, stream_error, with_send}

-- an increment of a live stream's send window
unfoldable pub window_outcome : ℕ → Stream → StreamOutcome
window_outcome increment st =
    if increment == 0 then stream_error st.id StreamIncrementZero
    else if is_above_max (st.numbers.send +ℤ pos increment) then stream_error st.id StreamWindowOverflow
    else outcome_without_frame (with_send st (st.numbers.send +ℤ pos increment))

-- an increment of the connection's send window
unfoldable pub connection_window : ConnectionState → ℕ → Reaction
connection_window core increment =
    if increment == 0 then ConnectionError ConnectionIncrementZero
    else if is_above_max (core.send +ℤ pos increment) then ConnectionError ConnectionWindowOverflow
    else Continues (only_counts (record core { send = core.send +ℤ pos increment }))
