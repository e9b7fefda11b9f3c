-- What a list of fields represents.
use Rattle.std.specs.Prelude.{ℕ, List}
use Rattle.h2_spec.specs.Hpack.Field.{Field}

-- the fields, and the octets of a next one that is not complete yet
pub record Listed : Type 0 where
  pub fields : List Field
  pub next : List ℕ
