-- What a wire reports of the octets that go through it.
use Rattle.std.specs.Prelude.{◌≡◌, ℕ, List, ◌++◌, Option, Some, None}

-- a list that has grown at its end, where the wire reports it
abbrev pub grown : {X : Type 0} → Option (List X) → List X → Option (List X)
grown None more = None
grown (Some xs) more = Some (xs ++ more)

-- some octets at the front of `out` were written
pub record Writes (known : Option (List ℕ)) (out : List ℕ) (known' : Option (List ℕ)) (out' : List ℕ) : Type 0 where
  pub octets : List ℕ
  pub known_is : known' ≡ grown known octets
  pub whole : octets ++ out' ≡ out
