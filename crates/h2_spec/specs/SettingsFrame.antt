-- The rule for SETTINGS (RFC 9113, 6.5 and 6.9.2).
use Rattle.std.specs.Prelude.{ℕ, true, List, [], ◌∷◌, if◌then◌else◌, Result, Ok, Err}
use Rattle.h2_spec.specs.declared.connection.Config.{Config}
use Rattle.h2_spec.specs.declared.causes.Cause.{Cause}
use Rattle.h2_spec.specs.declared.causes.Cause.TheVariants.{InitialWindowSizeOverflow}
use Rattle.h2_spec.specs.declared.connection.ConnectionState.{ConnectionState}
use Rattle.h2_spec.specs.declared.connection.Phase.TheVariants.{Running}
use Rattle.h2_spec.specs.declared.flow.LocalSettings.{LocalSettings}
use Rattle.h2_spec.specs.declared.flow.Settings.{Settings}
use Rattle.h2_spec.specs.declared.ignored.Ignored.TheVariants.{SecondAcknowledgement}
use Rattle.h2_spec.specs.declared.reactions.Change.{Change}
use Rattle.h2_spec.specs.declared.reactions.ConnectionFrame.TheVariants.{SettingsAck}
use Rattle.h2_spec.specs.declared.reactions.Reaction.{Reaction}
use Rattle.h2_spec.specs.declared.reactions.Reaction.TheVariants.{ConnectionError, Continues}
use Rattle.h2_spec.specs.declared.reactions.RecordUpdate.TheVariants.{Shift, Receive}
use Rattle.h2_spec.specs.declared.streams.Stream.{Stream}
use Rattle.h2_spec.specs.Settings.{with_setting}
use Rattle.h2_spec.specs.State.{configured}
use Rattle.h2_spec.specs.Change.{only_counts, ignoring, overflows, moved_by}

-- the settings in order after one of them, unless that is refused or takes a stream's window too far
abbrev pub setting_next : List Stream → Settings → Result Settings Cause → (Settings → Result Settings Cause) → Result Settings Cause
setting_next streams from (Err cause) follow = Err cause
setting_next streams from (Ok now) follow = if overflows (moved_by from.window now.window) streams then Err InitialWindowSizeOverflow else follow now

-- the settings after those of a frame in their order, where they were these before it; the first one that is refused
-- decides
unfoldable pub settings_applied : List Stream → Settings → Settings → List (ℕ × ℕ) → Result Settings Cause
unfolding overflows with_setting
settings_applied streams from now [] = Ok now
settings_applied streams from now (p ∷ ps) = setting_next streams from (with_setting now p.0 p.1) (λ next. settings_applied streams from next ps)

-- the settings are taken and acknowledged, or refused
abbrev pub settings_taken : ConnectionState → Result Settings Cause → Reaction
settings_taken core (Err cause) = ConnectionError cause
settings_taken core (Ok peer) = Continues (record (only_counts (record core { peer = peer; phase = Running })) { record_update = Shift core.peer.window peer.window; connection_frame = SettingsAck })

-- SETTINGS: all of the frame, or none of it
unfoldable pub settings_rule : List Stream → ConnectionState → List (ℕ × ℕ) → Reaction
unfolding settings_applied
settings_rule streams core pairs = settings_taken core (settings_applied streams core.peer core.peer pairs)

-- the server's settings are in force, and the receive windows of streams move by the change of the initial window
-- (6.5.3 and 6.9.2)
abbrev pub comes_into_force : ConnectionState → LocalSettings → Change
comes_into_force core own = record (only_counts (record core { acked = true; own = own })) { record_update = Receive core.own.window own.window }

-- the peer has acknowledged the server's settings: the first time they come into force, later it is ignored (6.5.3)
abbrev pub acknowledged : Config → ConnectionState → Reaction
acknowledged config core = if core.acked then Continues (ignoring SecondAcknowledgement (only_counts core)) else Continues (comes_into_force core (configured config))
