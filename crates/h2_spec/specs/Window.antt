-- Flow-control windows and the credit that is given back (RFC 9113, 5.2 and 6.9).
use Rattle.std.specs.Prelude.{ℕ, Bool, nat_le, if◌then◌else◌, Option, Some, None, ℤ, pos, negsuc, int_lt}

-- the largest window (6.9.1)
abbrev pub max_window : ℕ
max_window = 2147483647

-- whether a window would be above the largest one (6.9.1)
abbrev pub is_above_max : ℤ → Bool
is_above_max w = int_lt (pos max_window) w

-- the octets that a window lets pass
abbrev pub sendable : ℤ → ℕ
sendable (pos n) = n
sendable (negsuc n) = 0

-- what is given back of the octets owed: all of them, once they reach the threshold
abbrev pub given_back : ℕ → ℕ → Option ℕ
given_back threshold owed = if nat_le threshold owed then Some owed else None

-- and what is owed after that
abbrev pub still_owed : ℕ → ℕ → ℕ
still_owed threshold owed = if nat_le threshold owed then 0 else owed
