-- Fields in batches, one after another.
use Rattle.std.specs.Prelude.{◌≡◌, ℕ, suc, ◌+◌, List, [], ◌∷◌, ◌++◌, length, nat_lt, if◌then◌else◌}
use Rattle.h2_spec.specs.Hpack.Field.{Field}

-- the fields of a batch, and how many there are before them
pub record FieldsFrom : Type 0 where
  pub start : ℕ
  pub fields : List Field

-- the fields of all batches
abbrev pub fields_in : List FieldsFrom → List Field
fields_in [] = []
fields_in (b ∷ more) = b.fields ++ fields_in more

-- batches of which the first begins at this number of fields, and each other where the one before it ends
abbrev pub AreBatches : ℕ → List FieldsFrom → Type 0
AreBatches start [] = Unit {0}
AreBatches start (b ∷ more) = (b.start ≡ start) × AreBatches (start + length b.fields) more

-- how many batches begin before this number of fields
abbrev pub before : ℕ → List FieldsFrom → ℕ
before bound [] = 0
before bound (b ∷ more) = if nat_lt b.start bound then suc (before bound more) else 0
