-- The faults of the code as those of the definitions, and their numbers.
use Rattle.std.specs.Prelude.{ℕ, Option, Some, None, Result, Ok, Err}
use Rattle.h2_hpack_instruction.specs.declared.fault.BlockFault.{BlockFault}
use Rattle.h2_hpack_instruction.specs.declared.fault.BlockFault.TheVariants as fault
use Rattle.h2_prim.specs.declared.fault.HuffFault.{HuffFault}
use Rattle.h2_prim.specs.declared.fault.HuffFault.TheVariants as huffman
use Rattle.h2_spec.specs.Hpack.Block.{Fault, ZeroIndex, Index, Integer, Huffman, LateUpdate, LargeUpdate, MissingUpdate}

-- the number of a fault
abbrev pub number_of : BlockFault → ℕ
number_of fault.NoMemory = 0
number_of fault.ZeroIndex = 4
number_of fault.Index = 4
number_of fault.Integer = 5
number_of fault.Huffman = 6
number_of fault.LateUpdate = 7
number_of fault.LargeUpdate = 7
number_of fault.MissingUpdate = 7
number_of fault.Truncated = 8

-- the code's name of a fault
abbrev pub fault_of : Fault → BlockFault
fault_of ZeroIndex = fault.ZeroIndex
fault_of Index = fault.Index
fault_of Integer = fault.Integer
fault_of Huffman = fault.Huffman
fault_of LateUpdate = fault.LateUpdate
fault_of LargeUpdate = fault.LargeUpdate
fault_of MissingUpdate = fault.MissingUpdate

-- what a refused Huffman string is to a block
abbrev pub of_huffman : HuffFault → BlockFault
of_huffman huffman.NoMemory = fault.NoMemory
of_huffman huffman.Eos = fault.Huffman
of_huffman huffman.Padding = fault.Huffman

-- the fault that a result has, by the code's name
abbrev pub refusal : {X : Type 0} → Result X Fault → Option BlockFault
refusal (Ok x) = None
refusal (Err f) = Some (fault_of f)
