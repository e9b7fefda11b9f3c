-- Reading one thing at the front of octets.
use Rattle.std.specs.Prelude.{ℕ}

-- a thing and how many octets it takes, its beginning alone, or an integer in it that is too long
pub data Read (A : Type 0) : Type 0 where
  Whole : A → ℕ → Read A
  More : Read A
  TooLong : Read A

-- what is read, seen as something else
abbrev pub read_map : {A B : Type 0} → (A → B) → Read A → Read B
read_map f (Whole a used) = Whole (f a) used
read_map f More = More
read_map f TooLong = TooLong
