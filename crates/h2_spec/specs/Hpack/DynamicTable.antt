-- The dynamic table: its entries, the newest first, and its maximum (RFC 7541, 2.3 and 4).
use Rattle.std.specs.Prelude.{◌≡◌, ◌+◌, ◌≤◌, ℕ, zero, suc, ◌-◌, List, [], ◌∷◌, ◌++◌, length, nat_le, if◌then◌else◌, slice_get, Option, None}
use Rattle.h2_spec.specs.Hpack.Field.{Field, size}
use Rattle.h2_spec.specs.Hpack.StaticTable.{static_field}

-- what all entries count (4.1)
abbrev pub total_size : List Field → ℕ
total_size [] = 0
total_size (e ∷ es) = size e + total_size es

-- the entries from the newest on, as long as their sizes together are within the maximum (4.3)
unfoldable pub fit : List Field → ℕ → List Field
fit [] max = []
fit (e ∷ es) max = if nat_le (size e) max then e ∷ fit es (max - size e) else []

-- what is kept begins the entries and is within the maximum, and nothing longer is both
pub record IsLongestFit (entries : List Field) (max : ℕ) (kept : List Field) : Type 0 where
  pub begins : (rest : List Field) × (entries ≡ kept ++ rest)
  pub within : total_size kept ≤ max
  pub longest : (other rest : List Field) → entries ≡ other ++ rest → total_size other ≤ max → length other ≤ length kept

-- the entries, the newest first, and how much they may count together
pub record Table : Type 0 where
  pub entries : List Field
  pub max : ℕ

-- a table of one decoder, and the limit that its maximum may be given (4.2)
pub record LimitedTable : Type 0 where
  pub table : Table
  pub limit : ℕ

-- a new entry evicts the oldest until it fits; one that is larger than the maximum empties the table (4.4)
unfoldable pub insert : Table → Field → Table
unfolding fit
insert t e = record { entries = fit (e ∷ t.entries) t.max; max = t.max }

-- a new maximum evicts the oldest entries (4.3)
unfoldable pub resize : Table → ℕ → Table
unfolding fit
resize t max = record { entries = fit t.entries max; max = max }

-- the entry at a place of the table, counted from 1, the newest
abbrev pub entry_at : ℕ → List Field → Option Field
entry_at zero entries = None
entry_at (suc place) entries = slice_get entries place

-- the field at an index of both tables: 1 to 61 are static, 62 is the newest entry (2.3.3)
unfoldable pub field_at : ℕ → List Field → Option Field
unfolding static_field
field_at i entries = if nat_le i 61 then static_field i else slice_get entries (i - 62)
