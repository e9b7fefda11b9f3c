-- What the decoder does over a table with an edit of it.
use Rattle.std.specs.Prelude.{◌≡◌, ◌≢◌, ℕ, List, [], ◌∷◌, ◌++◌, Option, Some, Result, Ok, Err}
use Rattle.h2_hpack_instruction.specs.Faults.{fault_of, refusal}
use Rattle.h2_fields.specs.Blocks.{faulted}
use Rattle.h2_hpack_instruction.specs.declared.fault.BlockFault.{BlockFault}
use Rattle.h2_hpack_instruction.specs.declared.fault.BlockFault.TheVariants as fault
use Rattle.h2_spec.specs.Hpack.Block.{Fault, Progress, FieldsSoFar, applied, decoded, progress_with}
use Rattle.h2_spec.specs.Hpack.DynamicTable.{LimitedTable}
use Rattle.h2_spec.specs.Hpack.Field.{Field}
use Rattle.h2_spec.specs.Hpack.Instruction.{Shape}
use Rattle.h2_table.specs.Edits.{EditOf, edited}

-- how far a block has got over an edited table
abbrev pub progress_in : FieldsSoFar → LimitedTable → EditOf → Progress
progress_in s base e = progress_with (edited base.table.entries e) s

-- one instruction was done, or refused; where memory was refused nothing is said
abbrev pub IsApplied : ℕ → Progress → Shape → Progress → Result (Unit {0}) BlockFault → Type 0
IsApplied limit before shape now (Ok u) = applied limit before shape ≡ Ok now
IsApplied limit before shape now (Err f) = f ≢ fault.NoMemory → (now ≡ before) × (refusal (applied limit before shape) ≡ Some f)

-- the fields are still there, and others may be after them
abbrev pub Grows : FieldsSoFar → FieldsSoFar → Type 0
Grows old new = (more : List Field) × (new.fields ≡ old.fields ++ more)

-- the octets were decoded up to an instruction that is refused for this fault; where memory was refused nothing is said
pub record IsStopped (limit : ℕ) (before : Progress) (b : List ℕ) (now : Progress) (f : BlockFault) : Type 0 where
  pub exact : f ≢ fault.NoMemory → ((decoded limit before b).progress ≡ now) × (faulted (decoded limit before b).outcome ≡ Some f)

-- why a literal is refused: its name is decided first
abbrev pub first_refusal : Result (List ℕ) Fault → Result (List ℕ) Fault → Option BlockFault
first_refusal (Ok name) value = refusal value
first_refusal (Err fault) value = Some (fault_of fault)

-- the field of this name and value was added, or is refused; where memory was refused nothing is said about why
abbrev pub IsReadAs : Result (List ℕ) Fault → Result (List ℕ) Fault → FieldsSoFar → FieldsSoFar → Result (Unit {0}) BlockFault → Type 0
IsReadAs name value old new (Ok u) = (f : Field) × (name ≡ Ok f.name) × (value ≡ Ok f.value) × (new ≡ record old { fields = old.fields ++ f ∷ [] })
IsReadAs name value old new (Err f) = (new ≡ old) × (f ≢ fault.NoMemory → first_refusal name value ≡ Some f)
