-- The server's own settings along a run: the initial ones are in force until the peer has acknowledged the server's
-- SETTINGS, and the configured ones from then on (RFC 9113, 6.5.3; RFC 7541, 4.2).
use Rattle.std.specs.Prelude.{◌≡◌, ◌≤◌, ℕ, Bool, true, false, List, [], ◌∷◌, max}
use Rattle.h2_spec.specs.declared.connection.Config.{Config}
use Rattle.h2_spec.specs.declared.flow.LocalSettings.{LocalSettings}
use Rattle.h2_spec.specs.Requests.Answer.{Entry}
use Rattle.h2_spec.specs.Settings.{initial_local_settings}
use Rattle.h2_spec.specs.State.{State, configured, is_due, opening}
use Rattle.h2_spec.specs.Trace.{Event, trace}

-- the settings that are in force, before the acknowledgement and from it on
abbrev pub settings_in_force : Config → Bool → LocalSettings
settings_in_force config false = initial_local_settings
settings_in_force config true = configured config

-- the most octets that the header table may have
abbrev pub most_of_table : Config → Bool → ℕ
most_of_table config false = 4096
most_of_table config true = max 4096 config.table

-- the settings in force are these, the header table is no larger than one of them allowed, and before the
-- acknowledgement no block has to begin with a size update
pub record HasSettingsInForce (config : Config) (s : State) : Type 0 where
  pub own : s.core.own ≡ settings_in_force config s.core.acked
  pub within : s.table.max ≤ most_of_table config s.core.acked
  pub not_due : s.core.acked ≡ false → is_due s ≡ false

-- so it is after each item
abbrev pub AllHaveSettingsInForce : Config → List Event → Type 0
AllHaveSettingsInForce config [] = Unit {0}
AllHaveSettingsInForce config (e ∷ es) = HasSettingsInForce config e.state × AllHaveSettingsInForce config es

-- the law: so it is before a run, and after each item of it
abbrev pub KeepsLocalSettings : List Entry → Config → List ℕ → Type 0
KeepsLocalSettings book config octets = HasSettingsInForce config (opening book config) × AllHaveSettingsInForce config (trace (opening book config) octets).events
