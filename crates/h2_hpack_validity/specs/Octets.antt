-- Octets of names and values.
use Rattle.std.specs.Prelude.{ℕ, Bool, ◌||◌, nat_le, List, [], ◌∷◌, Option, Some, None, if◌then◌else◌}
use Rattle.std.specs.List.{find}
use Rattle.h2_spec.specs.Requests.Request.{is_outside_names, is_colon}

-- no name has it after its first octet (RFC 9113, 8.2.1)
abbrev pub is_outside_rest : ℕ → Bool
is_outside_rest c = is_outside_names c || is_colon c

-- an octet up to CR, as all are that no value has
abbrev pub is_low : ℕ → Bool
is_low c = nat_le c 13

-- the first octet of a name that it may not have there (RFC 9113, 8.2.1)
abbrev pub bad_octet_of_name : List ℕ → Option ℕ
bad_octet_of_name [] = None
bad_octet_of_name (first ∷ rest) = if is_outside_names first then Some first else find is_outside_rest rest
