-- The two ways in which definitions read what `hex` decodes.
use Rattle.std.proofs.Common.{◌≡◌, List, ℕ, Result, Ok, Err, refl}
use Rattle.hex.specs.Hex.{decode_of}
use Rattle.hex.specs.declared.error.FromHexError.{FromHexError}
use Rattle.h2_spec.specs.Requests.AnswerWords.{body_of, ok_or_none}
use Rattle.h2_spec.specs.Texts.Assemble.{decoded}

same : (r : Result (List ℕ) FromHexError) → ok_or_none r ≡ decoded r
same (Ok octets) = refl
same (Err fault) = refl

-- the octets of digits are those of a script's line
pub decoded-body : (digits : List ℕ) → body_of digits ≡ decoded (decode_of digits)
decoded-body digits = same (decode_of digits)

pub ruleset same_octets = (decoded-body)
