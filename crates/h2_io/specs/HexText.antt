-- The octets that hex text spells: pairs of hex digits, with white space anywhere between digits.
use Rattle.std.specs.Prelude.{◌==◌, ◌||◌, ◌++◌, ℕ, Bool, not, List, filter, Option}
use Rattle.std.specs.Option.{option_map}
use Rattle.h2_spec.specs.Requests.AnswerWords.{body_of}

-- how many digits are read at a time, and how many octets they are
abbrev pub most_digits : ℕ
most_digits = 512

abbrev pub most_octets : ℕ
most_octets = 256

-- what is no space, tab, carriage return or line feed
abbrev pub is_digit : ℕ → Bool
is_digit octet = not (octet == 32 || octet == 9 || octet == 13 || octet == 10)

-- the octets that hex text spells, if it is one
abbrev pub octets_spelled : List ℕ → Option (List ℕ)
octets_spelled text = body_of (filter is_digit text)

-- octets before those that are spelled after them
abbrev pub all_in_front : List ℕ → Option (List ℕ) → Option (List ℕ)
all_in_front octets rest = option_map (λ more. octets ++ more) rest
