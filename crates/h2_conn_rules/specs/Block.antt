-- Why a field block fails, and the table's row of HEADERS, by what the code answers (RFC 9113, 4.3, 4.3.1 and 6.2).
use Rattle.std.specs.Prelude.{Bool, not, if◌then◌else◌, Option, Some, None, Result, Ok, Err}
use Rattle.h2_hpack_instruction.specs.declared.fault.BlockFault.{BlockFault}
use Rattle.h2_hpack_instruction.specs.declared.fault.BlockFault.TheVariants as fault
use Rattle.h2_spec.specs.declared.causes.Cause.{Cause}
use Rattle.h2_spec.specs.declared.causes.Cause.TheVariants as cause
use Rattle.h2_spec.specs.declared.connection.Purpose.{Purpose}
use Rattle.h2_spec.specs.ReactionTable.{Cell, Error, Rule}

-- the cell of the table, by what HEADERS begins: the table has no cell in which HEADERS result in nothing
abbrev pub cell_of : Result Purpose Cause → Cell Purpose
cell_of (Ok purpose) = Rule purpose
cell_of (Err cause) = Error cause

-- the cause of the connection error that a fault is; none where memory was refused
abbrev pub cause_by : BlockFault → Option Cause
cause_by fault.NoMemory = None
cause_by fault.ZeroIndex = Some cause.IndexZero
cause_by fault.Index = Some cause.IndexOutOfTables
cause_by fault.Integer = Some cause.IntegerTooLong
cause_by fault.Huffman = Some cause.HuffmanString
cause_by fault.LateUpdate = Some cause.SizeUpdateLate
cause_by fault.LargeUpdate = Some cause.SizeUpdateTooLarge
cause_by fault.MissingUpdate = Some cause.SizeUpdateMissing
cause_by fault.Truncated = Some cause.BlockTruncated

-- why a block can't end here, if it can't, by whether all of its instructions are whole and whether a size update is
-- due
abbrev pub refused_end : Bool → Bool → Option Cause
refused_end is_whole is_due = if not is_whole then Some cause.BlockTruncated else if is_due then Some cause.SizeUpdateMissing else None
