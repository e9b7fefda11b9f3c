-- The error codes in frames that are sent, and the error code of a cause (RFC 9113, 5.4 and 7).
use Rattle.std.specs.Prelude.{ℕ, List, [], ◌∷◌, ◌++◌, ◌==◌, if◌then◌else◌, Option, Some, None}
use Rattle.h2_spec.specs.declared.causes.Cause.{Cause}
use Rattle.h2_spec.specs.Causes.Cause.{code_of}
use Rattle.h2_spec.specs.Causes.Errors.{code_number}
use Rattle.h2_spec.specs.Frames.FrameType.{RST_STREAM, GOAWAY}
use Rattle.h2_spec.specs.Frames.Frame.{Frame}
use Rattle.h2_spec.specs.Octets.{four_octets}

-- the error code in a frame, where it is RST_STREAM or GOAWAY (6.4 and 6.8)
abbrev pub error_code_in : Frame → List ℕ
error_code_in f =
    if f.kind == RST_STREAM then four_octets f.payload 0 ∷ []
    else if f.kind == GOAWAY then four_octets f.payload 4 ∷ []
    else []

-- the error codes in frames, in their order
abbrev pub error_codes_in : List Frame → List ℕ
error_codes_in [] = []
error_codes_in (f ∷ fs) = error_code_in f ++ error_codes_in fs

-- the error code of a cause, where there is one
abbrev pub error_codes_of : Option Cause → List ℕ
error_codes_of None = []
error_codes_of (Some cause) = code_number (code_of cause) ∷ []
