-- How an identifier is hashed: no two have the same hash.
use Rattle.std.specs.Prelude.{ℕ, ◌+◌, ◌*◌, ◌/◌, ◌%◌, ◌^◌}

-- the last four octets as a number, the lowest first
abbrev pub shifted_in : ℕ → ℕ → ℕ
shifted_in state octet = state / 256 + octet * 2 ^ 24

-- a number below 2^32 with its upper and lower half exchanged
abbrev pub halves_exchanged : ℕ → ℕ
halves_exchanged n = n % 65536 * 65536 + n / 65536

-- 2^32 divided by the golden ratio, and odd: neighbours are spread over all groups of the map
abbrev pub spread : ℕ → ℕ
spread id = halves_exchanged (id * 2654435769 % 2 ^ 32)
