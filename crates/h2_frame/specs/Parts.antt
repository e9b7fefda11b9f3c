-- What payloads hold, with borrowed octets as lists (RFC 9113, 6).
use Rattle.std.specs.Prelude.{List, ℕ, ◌+◌, ◌-◌, length, take, drop, nat_lt, if◌then◌else◌, Result, Ok, Err}
use Rattle.std.specs.Borrow.{Bor}
use Rattle.h2_frame.specs.declared.payload.DataPart.{DataPart}
use Rattle.h2_frame.specs.declared.payload.HeadersPart.{HeadersPart}
use Rattle.h2_frame.specs.declared.payload.SettingsPart.{SettingsPart}
use Rattle.h2_frame.specs.declared.payload.Part.{Part}
use Rattle.h2_frame.specs.declared.payload.Part.TheVariants as code
use Rattle.h2_spec.specs.Frames.Payload as spec
use Rattle.h2_spec.specs.Frames.Payload.{setting_pairs}
use Rattle.h2_spec.specs.declared.causes.Cause.{Cause}

abbrev pub data_seen : DataPart → spec.DataPart
data_seen d = record { pad = d.pad; content = d.content.now; padding = d.padding.now }

abbrev pub headers_seen : HeadersPart → spec.HeadersPart
headers_seen h = record { pad = h.pad; priority = h.priority; fragment = h.fragment.now; padding = h.padding.now }

-- the settings in order, as identifier and value
abbrev pub settings_in : SettingsPart → List (ℕ × ℕ)
settings_in s = setting_pairs s.octets.now

abbrev pub part_seen : Part → spec.Part
part_seen (code.Data d) = spec.OfData (data_seen d)
part_seen (code.Headers h) = spec.OfHeaders (headers_seen h)
part_seen code.Priority = spec.OfPriority
part_seen (code.RstStream error) = spec.OfRstStream error
part_seen (code.Settings s) = spec.OfSettings (settings_in s)
part_seen code.SettingsAck = spec.OfSettingsAck
part_seen code.PushPromise = spec.OfPushPromise
part_seen (code.Ping octets) = spec.OfPing octets
part_seen (code.Goaway last error) = spec.OfGoaway last error
part_seen (code.WindowUpdate increment) = spec.OfWindowUpdate increment
part_seen (code.Continuation fragment) = spec.OfContinuation fragment.now
part_seen code.Unknown = spec.OfUnknown

-- a part as it is seen, or the cause
abbrev pub seen : {A B : Type 0} → (A → B) → Result A Cause → Result B Cause
seen f (Ok part) = Ok (f part)
seen f (Err cause) = Err cause

abbrev pub both_seen : Bor (List ℕ) × Bor (List ℕ) → List ℕ × List ℕ
both_seen x = (x.0.now, x.1.now)

-- the octets between the fixed ones in front and the padding, and the padding
abbrev pub cut_between : Cause → ℕ → ℕ → List ℕ → Result (List ℕ × List ℕ) Cause
cut_between cause fixed pad p = if nat_lt (length p) (fixed + pad) then Err cause else Ok (take (length p - fixed - pad) (drop fixed p), drop (length p - pad) p)
