-- A fragment that is decoded over an edit of the table, and not taken over yet.
use Rattle.std.specs.Prelude.{◌≡◌, ℕ, ◌++◌, List, Some, length, take}
use Rattle.h2_fields.specs.declared.collected.Savepoint.{Savepoint}
use Rattle.h2_fields.specs.Blocks.{faulted}
use Rattle.h2_hpack_instruction.specs.declared.fault.BlockFault.{BlockFault}
use Rattle.h2_spec.specs.Hpack.Block.{Decoded, Progress, Unfinished, decoded, list_size}
use Rattle.h2_spec.specs.Hpack.DynamicTable.{Table}
use Rattle.h2_spec.specs.State.{Decoding}

-- what takes a block that is decoded with a fragment more back or on: the end of the fields before the fragment, the
-- octets that are left before it and after it, and all octets from the first of them to the last
pub record Tentative : Type 0 where
  pub savepoint : Savepoint
  pub before : List ℕ
  pub after : List ℕ
  pub all : List ℕ

-- the block as it was before the fragment
abbrev pub before_of : Decoding → Tentative → Decoding
before_of d t = record { purpose = d.purpose; fields = take t.savepoint.count d.fields; due = t.savepoint.due; rest = t.before }

-- the block as it is after it
abbrev pub after_of : Decoding → Tentative → Decoding
after_of d t = record d { rest = t.after }

-- no fragment is decoded yet
abbrev pub IsUntouched : Decoding → Tentative → Type 0
IsUntouched d t = (t.savepoint ≡ record { count = length d.fields; size = list_size d.fields; due = d.due }) × (t.before ≡ t.all)

-- the size of the fields before it is known
abbrev pub IsSized : Decoding → Tentative → Type 0
IsSized d t = t.savepoint.size ≡ list_size (take t.savepoint.count d.fields)

-- how far the block has got before it
abbrev pub before_fragment : Table → Decoding → Progress
before_fragment table d = record { fields = d.fields; table = table; due = d.due }

-- and after it, up to the beginning of an instruction
abbrev pub after_fragment : Table → Decoding → Decoded
after_fragment table d = record { progress = record { fields = d.fields; table = table; due = d.due }; outcome = Unfinished d.rest }

-- what the octets of a fragment, after those that are left before it, are decoded to
abbrev pub decoded_on : ℕ → Table → Decoding → Tentative → List ℕ → Decoded
decoded_on limit table d t octets = decoded limit (before_fragment table (before_of d t)) (t.before ++ octets)

-- it has this fault
abbrev pub HasFault : BlockFault → Decoded → Type 0
HasFault f d = faulted d.outcome ≡ Some f
