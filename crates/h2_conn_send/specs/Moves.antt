-- The change of records that moves the send windows of streams, or their receive windows.
use Rattle.std.specs.Prelude.{ℕ}
use Rattle.h2_spec.specs.declared.reactions.RecordUpdate.{RecordUpdate}
use Rattle.h2_spec.specs.declared.reactions.RecordUpdate.TheVariants.{Shift, Receive}
use Rattle.h2_conn_send.specs.declared.send_update.Windows.{Windows}
use Rattle.h2_conn_send.specs.declared.send_update.Windows.TheVariants as windows

-- these windows move, as the initial one goes from one value to another (RFC 9113, 6.5.3 and 6.9.2)
abbrev pub move_of : Windows → ℕ → ℕ → RecordUpdate
move_of windows.Send from to = Shift from to
move_of windows.Receive from to = Receive from to
