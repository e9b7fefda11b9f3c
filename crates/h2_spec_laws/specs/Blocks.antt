-- A field block by its instructions: those that its octets split into, up to the first that is refused (RFC 7541, 3.2
-- and 6).
-- `decoded` of Block computes it: a law of this crate.
use Rattle.std.specs.Prelude.{◌≡◌, ◌⊎◌, ℕ, List, [], ◌∷◌, ◌++◌, Ok, Err}
use Rattle.h2_spec.specs.Hpack.Block.{Decoded, Fault, Integer, Outcome, Unfinished, Faulty, Progress, applied}
use Rattle.h2_spec.specs.Hpack.Instruction.{Shape, instr_at}
use Rattle.h2_spec.specs.Read.{More, TooLong}

-- instructions one after another lead from one point of a block to another, and none of them is refused
abbrev pub Lead : ℕ → Progress → List Shape → Progress → Type 0
Lead limit p [] q = q ≡ p
Lead limit p (i ∷ is) q = (next : Progress) × (applied limit p i ≡ Ok next) × Lead limit next is q

-- a block ends with the beginning of an instruction, or with an integer that is too long
abbrev pub EndsWith : List ℕ → Outcome → Type 0
EndsWith rest (Unfinished begun) = (begun ≡ rest) × (instr_at rest ≡ More)
EndsWith rest (Faulty fault) = (fault ≡ Integer) × (instr_at rest ≡ TooLong)

-- all instructions are taken, and the block ends with the rest
pub record TakesAll (limit : ℕ) (before : Progress) (instructions : List Shape) (rest : List ℕ) (d : Decoded) : Type 0 where
  pub taken : Lead limit before instructions d.progress
  pub ends : EndsWith rest d.outcome

-- one instruction is refused, those in front of it are taken, and the block ends by that refusal
pub record RefusesOne (limit : ℕ) (before : Progress) (instructions : List Shape) (d : Decoded) : Type 0 where
  pub front : List Shape
  pub refused : Shape
  pub behind : List Shape
  pub order : instructions ≡ front ++ refused ∷ behind
  pub taken : Lead limit before front d.progress
  pub fault : Fault
  pub refusal : applied limit d.progress refused ≡ Err fault
  pub ends : d.outcome ≡ Faulty fault

-- what a block of these instructions and this rest results in
abbrev pub Decodes : ℕ → Progress → List Shape → List ℕ → Decoded → Type 0
Decodes limit before instructions rest d = TakesAll limit before instructions rest d ⊎ RefusesOne limit before instructions d
