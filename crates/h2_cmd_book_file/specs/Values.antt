-- The values of a table, as contracts see them.
use Rattle.std.specs.Prelude.{Option}
use Rattle.std.specs.Option.{option_map}
use Rattle.std.specs.Borrow.{Bor}
use Rattle.toml.specs.Data.{Data}
use Rattle.toml.specs.View.{view}
use Rattle.toml.specs.declared.value.Value.{Value}

-- the data of the value at a key, if there is one
abbrev pub data_at : Option (Bor Value) → Option Data
data_at value = option_map (λ v. view v.now) value
