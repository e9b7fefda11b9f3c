-- The spellings of a block beside its decoding by a connection (RFC 7541, 3.2 and 6).
use Rattle.std.specs.Prelude.{◌≡◌, ℕ, List, [], ◌∷◌, ◌++◌, length, Result, Ok, Err}
use Rattle.h2_spec.specs.Hpack.Block.{Decoded, Fault, Integer, Outcome, Unfinished, Faulty, Progress, applied}
use Rattle.h2_spec.specs.Hpack.Instruction.{Shape, Indexed, Update, Literal, instr_at}
use Rattle.h2_spec.specs.Read.{Read, Whole, More, TooLong}
use Rattle.h2_spec_laws.specs.Blocks.{Lead}
use Rattle.h2_explain_words.specs.Spelled.{BlockSpelled, Taken, spellings}

-- the table size updates among instructions
abbrev pub updates : List Shape → List ℕ
updates [] = []
updates (Indexed i ∷ is) = updates is
updates (Update n ∷ is) = n ∷ updates is
updates (Literal mode name value ∷ is) = updates is

-- what is at the front of octets is refused with this fault
abbrev pub IsRefusedFront : ℕ → Progress → Read Shape → Fault → Type 0
IsRefusedFront limit p (Whole i used) fault = applied limit p i ≡ Err fault
IsRefusedFront limit p More fault = ⊥
IsRefusedFront limit p TooLong fault = fault ≡ Integer

-- the octets that are left begin with the instruction that is not whole, or is refused
abbrev pub IsLeft : ℕ → Progress → Outcome → List ℕ → Type 0
IsLeft limit p (Unfinished begun) rest = begun ≡ rest
IsLeft limit p (Faulty fault) rest = IsRefusedFront limit p (instr_at rest) fault

-- a block is spelled as it was decoded: its instructions lead from one point of the block to the other, and none of them
-- is refused; they give the spellings, one for each field, and the updates; and decoding went no further
pub record IsAlong (limit : ℕ) (before : Progress) (t : Taken) (d : Decoded) (b : BlockSpelled) : Type 0 where
  pub instructions : List Shape
  pub taken : Lead limit before instructions d.progress
  pub given : b.taken.given ≡ t.given ++ spellings instructions
  pub updates : b.taken.updates ≡ t.updates ++ updates instructions
  pub each : length b.taken.given ≡ length d.progress.fields
  pub left : IsLeft limit d.progress d.outcome b.rest
