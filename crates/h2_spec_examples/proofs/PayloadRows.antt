-- What the payloads of frames hold (RFC 9113, 6).
use Rattle.std.specs.Prelude.{◌≡◌, ℕ, List, [], ◌∷◌, map, refl, codes, Some, None, Result, Ok, Err}
use Prim.Native.String.{String}
use Rattle.h2_spec.specs.declared.causes.Cause.{Cause}
use Rattle.h2_spec.specs.declared.causes.Cause.TheVariants.{DataLength, DataPadding, HeadersLength, HeadersPadding, SettingsLength, SettingsAckLength, PingLength, PriorityLength, RstStreamLength, WindowUpdateLength, GoawayLength}
use Rattle.h2_spec.specs.declared.frames.FrameType.{FrameType}
use Rattle.h2_spec.specs.declared.frames.FrameType.TheVariants as types
use Rattle.h2_spec.specs.Frames.Payload.{Part, DataPart, HeadersPart, OfPing, OfPriority, OfSettingsAck, data_part, headers_part, settings_part, window_part, goaway_part, reset_part, part_as}
use Rattle.h2_spec_examples.proofs.Hex.{hex}

-- flags and payloads of DATA (6.1): 8 is PADDED
abbrev data_rows : List (ℕ × String × Result DataPart Cause)
data_rows =
    (0x08, "02610000", Ok (record { pad = Some 2; content = 0x61 ∷ []; padding = 0 ∷ 0 ∷ [] })) ∷
    -- all but the length is padding
    (0x08, "03610000", Ok (record { pad = Some 3; content = []; padding = 0x61 ∷ 0 ∷ 0 ∷ [] })) ∷
    (0x08, "04610000", Err DataPadding) ∷
    (0x08, "", Err DataLength) ∷
    (0x01, "0261", Ok (record { pad = None; content = 0x02 ∷ 0x61 ∷ []; padding = [] })) ∷ []

data_has_content_and_padding : map (λ (row : ℕ × String × Result DataPart Cause). data_part row.0 (hex (codes row.1))) data_rows ≡ map (λ (row : ℕ × String × Result DataPart Cause). row.2) data_rows
unfolding data_part
data_has_content_and_padding = refl

-- flags and payloads of HEADERS (6.2): 2c is PRIORITY, PADDED and END_HEADERS; the exclusive bit is one of the
-- dependency's 32
abbrev headers_rows : List (ℕ × String × Result HeadersPart Cause)
headers_rows =
    (0x2c, "01800000030f8200", Ok (record { pad = Some 1; priority = Some (2147483651, 15); fragment = 0x82 ∷ []; padding = 0 ∷ [] })) ∷
    (0x2c, "0180000003", Err HeadersLength) ∷
    (0x2c, "02800000030f82", Err HeadersPadding) ∷
    (0x04, "8286", Ok (record { pad = None; priority = None; fragment = 0x82 ∷ 0x86 ∷ []; padding = [] })) ∷ []

headers_have_a_fragment : map (λ (row : ℕ × String × Result HeadersPart Cause). headers_part row.0 (hex (codes row.1))) headers_rows ≡ map (λ (row : ℕ × String × Result HeadersPart Cause). row.2) headers_rows
unfolding headers_part
headers_have_a_fragment = refl

-- flags and payloads of SETTINGS (6.5): 1 is ACK
abbrev settings_rows : List (ℕ × String × Result (List (ℕ × ℕ)) Cause)
settings_rows =
    (0, "000300000064000600010000", Ok ((3, 100) ∷ (6, 65536) ∷ [])) ∷
    (1, "", Ok []) ∷
    (1, "000300000064", Err SettingsAckLength) ∷
    (0, "0003000000", Err SettingsLength) ∷ []

settings_are_in_their_order : map (λ (row : ℕ × String × Result (List (ℕ × ℕ)) Cause). settings_part row.0 (hex (codes row.1))) settings_rows ≡ map (λ (row : ℕ × String × Result (List (ℕ × ℕ)) Cause). row.2) settings_rows
unfolding settings_part
settings_are_in_their_order = refl

-- ---- small frames

-- 6.9: without its reserved bit
increment_is_of_31_bits : map (λ (octets : String). window_part (hex (codes octets))) ("ffffffff" ∷ "000001" ∷ []) ≡ Ok 2147483647 ∷ Err WindowUpdateLength ∷ []
unfolding window_part
increment_is_of_31_bits = refl

-- 6.8: without the reserved bit of the last stream; debug octets are not looked at
goaway_has_a_stream_and_a_code : map (λ (octets : String). goaway_part (hex (codes octets))) ("8000000500000002627965" ∷ "00000005000000" ∷ []) ≡ Ok (5, 2) ∷ Err GoawayLength ∷ []
unfolding goaway_part
goaway_has_a_stream_and_a_code = refl

-- 6.4
code_of_a_reset_is_of_32_bits : map (λ (octets : String). reset_part (hex (codes octets))) ("80000008" ∷ "" ∷ []) ≡ Ok 2147483656 ∷ Err RstStreamLength ∷ []
unfolding reset_part
code_of_a_reset_is_of_32_bits = refl

-- types, flags and payloads of frames that hold little (6.3, 6.5 and 6.7)
abbrev part_rows : List (FrameType × ℕ × String × Result Part Cause)
part_rows =
    (types.Ping, 0, "0102030405060708", Ok (OfPing (1 ∷ 2 ∷ 3 ∷ 4 ∷ 5 ∷ 6 ∷ 7 ∷ 8 ∷ []))) ∷
    (types.Ping, 0, "01", Err PingLength) ∷
    (types.Priority, 0, "01", Err PriorityLength) ∷
    (types.Priority, 0, "000000010f", Ok OfPriority) ∷
    (types.Settings, 1, "", Ok OfSettingsAck) ∷ []

parts_of_frames : map (λ (row : FrameType × ℕ × String × Result Part Cause). part_as row.0 row.1 (hex (codes row.2))) part_rows ≡ map (λ (row : FrameType × ℕ × String × Result Part Cause). row.3) part_rows
unfolding part_as
parts_of_frames = refl
