-- What a splitter holds.
use Rattle.std.specs.Prelude.{ℕ, List, Bool}

-- the octets pushed and not yet taken, whether the preface is still awaited, and whether no item follows any more
pub record Rest : Type 0 where
  pub octets : List ℕ
  pub expects_preface : Bool
  pub is_over : Bool
