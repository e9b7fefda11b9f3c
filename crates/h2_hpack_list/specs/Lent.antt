-- Fields that are lent.
use Rattle.std.specs.Prelude.{ℕ, List}
use Rattle.std.specs.Borrow.{Bor}
use Rattle.h2_spec.specs.Hpack.Field.{Field, field}

-- the field of a name and a value that are lent
abbrev pub lent_field : Bor (List ℕ) × Bor (List ℕ) → Field
lent_field f = field f.0.now f.1.now
