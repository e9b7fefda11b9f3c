-- The rest of a field block before a fragment and after it, and how its decoding is counted.
use Rattle.std.specs.Prelude.{◌≡◌, ℕ, ◌+◌, ◌*◌, ◌-◌, ◌^◌, ◌≤◌, ◌<◌, List}

-- the octets that begin an instruction and do not end it, before a fragment and after it, all octets from the first of
-- them to the last, and the ticks of the fragment
pub record RestChange : Type 0 where
  pub before : List ℕ
  pub after : List ℕ
  pub all : List ℕ
  pub ticks : ℕ

-- no fragment is decoded: there are no octets but those before it
abbrev pub IsFresh : RestChange → Type 0
IsFresh r = r.before ≡ r.all

-- the greatest count of ticks: there it stays
abbrev pub most_ticks : ℕ
most_ticks = 2 ^ 64 - 1

-- `all` octets are decoded up to `used`, and `passed` of them were passed before: each octet after those is passed
-- once, and what is done besides counts no more than the whole instructions have octets
abbrev pub IsCounted : ℕ → ℕ → ℕ → ℕ → ℕ → Type 0
IsCounted passed all used old new = (new < most_ticks → old + all ≤ passed + new) × (passed + new ≤ old + all + used)

-- decoding a fragment takes a tick or more for each of its octets. It takes one more for an octet that is left no
-- longer, one more for each octet of the fragment, and five for an integer that is read again
abbrev pub IsTicked : ℕ → ℕ → ℕ → ℕ → Type 0
IsTicked before piece after ticks = (ticks < most_ticks → piece ≤ ticks) × (ticks + after ≤ before + 2 * piece + 5) × (after ≤ before + piece)
