-- What the server sends before it reads anything (RFC 9113, 3.4).
use Rattle.std.specs.Prelude.{ℕ, List, [], ◌++◌, ◌==◌, if◌then◌else◌}
use Rattle.h2_spec.specs.Frames.FrameType.{SETTINGS}
use Rattle.h2_spec.specs.Frames.Frame.{Frame, frame_octets}
use Rattle.h2_spec.specs.Settings.{SETTINGS_HEADER_TABLE_SIZE, SETTINGS_MAX_CONCURRENT_STREAMS, SETTINGS_INITIAL_WINDOW_SIZE, SETTINGS_MAX_FRAME_SIZE, SETTINGS_MAX_HEADER_LIST_SIZE, initial_local_settings}
use Rattle.h2_spec.specs.Requests.Headers.{max_list}
use Rattle.h2_spec.specs.Octets.{big_endian}
use Rattle.h2_spec.specs.declared.connection.Config.{Config}

-- one setting of a SETTINGS frame (6.5.1)
abbrev pub setting : ℕ → ℕ → List ℕ
setting id value = big_endian 2 id ++ big_endian 4 value

-- a setting, unless it has the value that every connection begins with (6.5.2)
unfoldable pub setting_unless : ℕ → ℕ → ℕ → List ℕ
setting_unless first id value = if value == first then [] else setting id value

-- the settings by rising identifier: the most streams at once, and the most octets of a list of fields; the others
-- where they differ from the first ones
unfoldable pub opening_payload : Config → List ℕ
unfolding setting_unless
opening_payload config =
    setting_unless initial_local_settings.table SETTINGS_HEADER_TABLE_SIZE config.table ++
    setting SETTINGS_MAX_CONCURRENT_STREAMS config.streams ++
    setting_unless initial_local_settings.window SETTINGS_INITIAL_WINDOW_SIZE config.window ++
    setting_unless initial_local_settings.frame SETTINGS_MAX_FRAME_SIZE config.frame ++
    setting SETTINGS_MAX_HEADER_LIST_SIZE max_list

-- the SETTINGS that the server sends first
abbrev pub opening_settings : Config → Frame
opening_settings config = record { kind = SETTINGS; flags = 0; stream = 0; payload = opening_payload config }

-- the octets of the opening SETTINGS
unfoldable pub opening_octets : Config → List ℕ
unfolding frame_octets opening_payload
opening_octets config = frame_octets (opening_settings config)
