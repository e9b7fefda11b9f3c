-- How a dynamic table is held: a ring of places for its entries, and a running size.
use Rattle.std.specs.Prelude.{◌≡◌, ℕ, ◌≤◌, ◌/◌, List, max}
use Rattle.h2_spec.specs.Hpack.Field.{Field}
use Rattle.h2_spec.specs.Hpack.DynamicTable.{total_size}

-- the places of a ring: each entry counts 32 octets or more
abbrev pub places_for : ℕ → ℕ
places_for limit = max (limit / 32) 1

-- the entries are in that many places, count that much, and are within the maximum; there are places for the larger of
-- maximum and limit
pub record IsHeld (entries : List Field) (places size most limit : ℕ) : Type 0 where
  pub counted : size ≡ total_size entries
  pub within : size ≤ most
  pub has_places : places_for (max most limit) ≤ places
