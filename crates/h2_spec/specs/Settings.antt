-- Settings of the peer and of the server (RFC 9113, 6.5.2).
use Rattle.std.specs.Prelude.{ℕ, ◌≤◌, true, false, ◌&&◌, nat_le, ◌==◌, if◌then◌else◌, Some, None, Result, Ok, Err, ℤ, pos, ◌-ℤ◌}
use Rattle.h2_spec.specs.declared.causes.Cause.{Cause}
use Rattle.h2_spec.specs.declared.causes.Cause.TheVariants.{EnablePushValue, InitialWindowSizeValue, MaxFrameSizeValue}
use Rattle.h2_spec.specs.declared.errors.FlowFault.{FlowFault}
use Rattle.h2_spec.specs.declared.errors.FlowFault.TheVariants.{BadSetting}
use Rattle.h2_spec.specs.declared.flow.Settings.{Settings}
use Rattle.h2_spec.specs.declared.flow.LocalSettings.{LocalSettings}
use Rattle.h2_spec.specs.Window.{max_window}

-- the identifiers of settings
abbrev pub SETTINGS_HEADER_TABLE_SIZE : ℕ
SETTINGS_HEADER_TABLE_SIZE = 1

-- whether the server may push
abbrev pub SETTINGS_ENABLE_PUSH : ℕ
SETTINGS_ENABLE_PUSH = 2

-- the most streams at a time
abbrev pub SETTINGS_MAX_CONCURRENT_STREAMS : ℕ
SETTINGS_MAX_CONCURRENT_STREAMS = 3

-- the first window of streams
abbrev pub SETTINGS_INITIAL_WINDOW_SIZE : ℕ
SETTINGS_INITIAL_WINDOW_SIZE = 4

-- the longest payload
abbrev pub SETTINGS_MAX_FRAME_SIZE : ℕ
SETTINGS_MAX_FRAME_SIZE = 5

-- the largest list of fields
abbrev pub SETTINGS_MAX_HEADER_LIST_SIZE : ℕ
SETTINGS_MAX_HEADER_LIST_SIZE = 6

-- the peer's settings before it has sent any
abbrev pub initial : Settings
initial = record { header_table = 4096; push = 1; streams = None; window = 65535; frame = 16384; list = None; size_update_pending = false }

-- the server's settings that are in force until the peer has acknowledged others
abbrev pub initial_local_settings : LocalSettings
initial_local_settings = record { table = 4096; window = 65535; frame = 16384 }

-- values that are allowed (6.5.2)
pub record IsAllowed (s : Settings) : Type 0 where
  pub push : s.push ≤ 1
  pub window : s.window ≤ max_window
  pub least_frame : 16384 ≤ s.frame
  pub most_frame : s.frame ≤ 16777215

-- the settings after one of them, or why it is refused
unfoldable pub with_setting : Settings → ℕ → ℕ → Result Settings Cause
with_setting s id v =
    if id == SETTINGS_HEADER_TABLE_SIZE then Ok (record s { header_table = v; size_update_pending = true })
    else if id == SETTINGS_ENABLE_PUSH then (if nat_le v 1 then Ok (record s { push = v }) else Err EnablePushValue)
    else if id == SETTINGS_MAX_CONCURRENT_STREAMS then Ok (record s { streams = Some v })
    else if id == SETTINGS_INITIAL_WINDOW_SIZE then (if nat_le v max_window then Ok (record s { window = v }) else Err InitialWindowSizeValue)
    else if id == SETTINGS_MAX_FRAME_SIZE then (if nat_le 16384 v && nat_le v 16777215 then Ok (record s { frame = v }) else Err MaxFrameSizeValue)
    else if id == SETTINGS_MAX_HEADER_LIST_SIZE then Ok (record s { list = Some v })
    else Ok s

-- the change of the initial window, which moves the streams' send windows (6.9.2), or the fault
abbrev pub window_change : Settings → Result Settings Cause → Result ℤ FlowFault
window_change s (Ok t) = Ok (pos t.window -ℤ pos s.window)
window_change s (Err cause) = Err (BadSetting cause)

-- the settings after one of them, or as they were where it is refused
abbrev pub settings_or : Settings → Result Settings Cause → Settings
settings_or s (Ok t) = t
settings_or s (Err cause) = s
