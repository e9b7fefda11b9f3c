-- What the decoder holds, and what it answers, by the definitions.
use Rattle.std.specs.Prelude.{◌≡◌, ◌≢◌, ℕ, ◌+◌, ◌*◌, ◌<◌, ◌≤◌, Bool, true, false, List, [], ◌∷◌, length, Option, Some, None, option_map, Result, Ok, Err}
use Rattle.h2_hpack_instruction.specs.Faults.{fault_of}
use Rattle.h2_fields.specs.Rests.{most_ticks}
use Rattle.h2_hpack_instruction.specs.declared.fault.BlockFault.{BlockFault}
use Rattle.h2_hpack_instruction.specs.declared.fault.BlockFault.TheVariants as fault
use Rattle.h2_spec.specs.Hpack.Block.{ZeroIndex, Index, Integer, Huffman, LateUpdate, LargeUpdate, MissingUpdate, Outcome, Unfinished, Faulty, Progress, Decoded}
use Rattle.h2_spec.specs.Hpack.DynamicTable.{Table}
use Rattle.h2_spec.specs.Hpack.Field.{Field}
use Rattle.h2_spec.specs.Hpack.Instruction.{instr_at}
use Rattle.h2_spec.specs.Read.{More}

-- what a decoder holds of a block: the fields so far, whether a size update is still due, how the block ends so far,
-- nothing where memory was refused, and how many steps its decoding took
pub record BlockSoFar : Type 0 where
  pub fields : List Field
  pub due : Bool
  pub outcome : Option Outcome
  pub ticks : ℕ

-- with the table, the block decoded so far; none where memory was refused
abbrev pub decoded_with : Table → BlockSoFar → Option Decoded
decoded_with table s = option_map (λ o. let d : Decoded = record { progress = record { fields = s.fields; table = table; due = s.due }; outcome = o } in d) s.outcome

-- the octets that begin an instruction and do not end it
abbrev pub unfinished : Option Outcome → List ℕ
unfinished (Some (Unfinished rest)) = rest
unfinished (Some (Faulty f)) = []
unfinished None = []

-- a decoder of which nothing has arrived, and whether the block has to begin with a size update
abbrev pub fresh : Bool → BlockSoFar
fresh due = record { fields = []; due = due; outcome = Some (Unfinished []); ticks = 0 }

-- how a fragment that is answered Ok is counted: at least a tick for each of its octets, and no more than pays for them
-- and for the octets that are left no longer
abbrev pub TicksRise : BlockSoFar → List ℕ → BlockSoFar → Type 0
TicksRise old piece new =
    (new.ticks < most_ticks → old.ticks + length piece ≤ new.ticks)
    × (new.ticks + 2 * length (unfinished new.outcome) ≤ old.ticks + 2 * length (unfinished old.outcome) + 4 * length piece + 8)

-- fragments, one after another, each counted so
abbrev pub ArePushed : BlockSoFar → List (List ℕ) → BlockSoFar → Type 0
ArePushed old [] new = old ≡ new
ArePushed old (piece ∷ pieces) new = (mid : BlockSoFar) × TicksRise old piece mid × ArePushed mid pieces new

-- how far a block has got
abbrev pub progress_so_far : Table → BlockSoFar → Progress
progress_so_far table s = record { fields = s.fields; table = table; due = s.due }

-- the fault of a block that has one, and how far the block has got before it
abbrev pub faulted : Outcome → Option BlockFault
faulted (Unfinished rest) = None
faulted (Faulty f) = Some (fault_of f)

-- ---- what a decoder represents

-- how a block ends so far, by the octets that are left and the fault; nothing where memory was refused
abbrev pub outcome_of : List ℕ → Option BlockFault → Option Outcome
outcome_of rest None = Some (Unfinished rest)
outcome_of rest (Some fault.NoMemory) = None
outcome_of rest (Some fault.ZeroIndex) = Some (Faulty ZeroIndex)
outcome_of rest (Some fault.Index) = Some (Faulty Index)
outcome_of rest (Some fault.Integer) = Some (Faulty Integer)
outcome_of rest (Some fault.Huffman) = Some (Faulty Huffman)
outcome_of rest (Some fault.LateUpdate) = Some (Faulty LateUpdate)
outcome_of rest (Some fault.LargeUpdate) = Some (Faulty LargeUpdate)
outcome_of rest (Some fault.MissingUpdate) = Some (Faulty MissingUpdate)
outcome_of rest (Some fault.Truncated) = Some (Unfinished rest)

-- the rest begins an instruction and does not end it; the end of a block is no fault of its octets
abbrev pub CanRemain : List ℕ → Option BlockFault → Type 0
CanRemain rest None = instr_at rest ≡ More
CanRemain rest (Some f) = f ≢ fault.Truncated

-- what a further fragment is answered
abbrev pub answer_of : Option Outcome → Result (Unit {0}) BlockFault
answer_of (Some (Unfinished rest)) = Ok tt
answer_of (Some (Faulty f)) = Err (fault_of f)
answer_of None = Err fault.NoMemory

-- what the end of a block is answered that ends between two instructions: a size update may still be due
abbrev pub whole_of : Bool → Result (Unit {0}) BlockFault
whole_of true = Err fault.MissingUpdate
whole_of false = Ok tt

-- what the end of the block is answered
abbrev pub finish_of : Bool → Option Outcome → Result (Unit {0}) BlockFault
finish_of due (Some (Unfinished [])) = whole_of due
finish_of due (Some (Unfinished (o ∷ rest))) = Err fault.Truncated
finish_of due (Some (Faulty f)) = Err (fault_of f)
finish_of due None = Err fault.NoMemory
