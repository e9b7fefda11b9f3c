-- Octets as numbers and numbers as octets, the highest first (RFC 9113, 4.1).
use Rattle.std.specs.Prelude.{ℕ, zero, suc, ◌+◌, ◌*◌, ◌/◌, ◌%◌, ◌^◌, List, [], ◌∷◌, slice_index}

-- the numbers that two, three and four octets from place i on write
abbrev pub two_octets : List ℕ → ℕ → ℕ
two_octets xs i = 256 * slice_index xs i + slice_index xs (i + 1)

-- of three octets
abbrev pub three_octets : List ℕ → ℕ → ℕ
three_octets xs i = 65536 * slice_index xs i + 256 * slice_index xs (i + 1) + slice_index xs (i + 2)

-- of four octets
abbrev pub four_octets : List ℕ → ℕ → ℕ
four_octets xs i = 16777216 * slice_index xs i + 65536 * slice_index xs (i + 1) + 256 * slice_index xs (i + 2) + slice_index xs (i + 3)

-- the low 31 bits of four octets
abbrev pub low_31_bits : List ℕ → ℕ → ℕ
low_31_bits xs i = 16777216 * (slice_index xs i % 128) + 65536 * slice_index xs (i + 1) + 256 * slice_index xs (i + 2) + slice_index xs (i + 3)

-- the low digits of a number in base 256, this many, the highest first
abbrev pub big_endian : ℕ → ℕ → List ℕ
big_endian zero n = []
big_endian (suc count) n = n / 256 ^ count % 256 ∷ big_endian count n
