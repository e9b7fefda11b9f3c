-- The code's instructions as those of the definitions.
use Rattle.std.specs.Prelude.{◌<◌, ◌≤◌, ◌^◌, length, Option, Some, None}
use Rattle.h2_hpack_instruction.specs.Shapes.{mode_of}
use Rattle.h2_hpack_instruction.specs.declared.fault.BlockFault.{BlockFault}
use Rattle.h2_hpack_instruction.specs.declared.fault.BlockFault.TheVariants as fault
use Rattle.h2_hpack_instruction.specs.declared.instruction.Instr.{Instr}
use Rattle.h2_hpack_instruction.specs.declared.instruction.Instr.TheVariants as instr
use Rattle.h2_hpack_instruction.specs.declared.instruction.InstrRead.{InstrRead}
use Rattle.h2_hpack_instruction.specs.declared.instruction.InstrRead.TheVariants as read
use Rattle.h2_hpack_instruction.specs.declared.instruction.Name.{Name}
use Rattle.h2_hpack_instruction.specs.declared.instruction.Name.TheVariants as name
use Rattle.h2_spec.specs.Hpack.Field.{Field}
use Rattle.h2_spec.specs.Hpack.Huffman as huffman
use Rattle.h2_spec.specs.Hpack.Instruction as spec
use Rattle.h2_spec.specs.Read.{Read, Whole, More, TooLong}

abbrev pub name_text_of : {A : Type 0} → Name A → spec.NameRef spec.TextStr
name_text_of (name.Ref i) = spec.Ref i
name_text_of (name.Text t) = spec.Named t

abbrev pub instr_of : {A : Type 0} → Instr A → spec.Instruction
instr_of (instr.Indexed i) = spec.Indexed i
instr_of (instr.Update n) = spec.Update n
instr_of (instr.Literal m n v) = spec.Literal (mode_of m) (name_text_of n) v

abbrev pub read_text : {A : Type 0} → InstrRead A → Read (Option spec.Instruction)
read_text (read.Whole i used) = Whole (Some (instr_of i)) used
read_text read.More = More

-- why no instruction is read: a string of it has no text, or an integer is too long
abbrev pub fault_at : Read (Option spec.Instruction) → Option BlockFault
fault_at (Whole (Some i) used) = None
fault_at (Whole None used) = Some fault.Huffman
fault_at More = None
fault_at TooLong = Some fault.Integer

-- a whole instruction whose strings have texts
abbrev pub HasInstruction : Read (Option spec.Instruction) → Type 0
HasInstruction (Whole (Some i) used) = Unit {0}
HasInstruction (Whole None used) = ⊥
HasInstruction More = ⊥
HasInstruction TooLong = ⊥

-- a literal: what is read of the other instructions takes no memory
abbrev pub IsLiteral : spec.Shape → Type 0
IsLiteral (spec.Indexed i) = ⊥
IsLiteral (spec.Update n) = ⊥
IsLiteral (spec.Literal mode n value) = Unit {0}

-- a whole literal
abbrev pub HasLiteral : Read spec.Shape → Type 0
HasLiteral (Whole i used) = IsLiteral i
HasLiteral More = ⊥
HasLiteral TooLong = ⊥

-- the octets are a text
abbrev pub HasText : huffman.HuffRead → Type 0
HasText (huffman.Text t) = Unit {0}
HasText huffman.Eos = ⊥
HasText huffman.Padding = ⊥

-- ---- what can be written: numbers of 32 bits, an index above 0, and texts of 33,554,432 octets

abbrev pub IsWritableText : spec.TextStr → Type 0
IsWritableText t = length t.text ≤ 33554432

abbrev pub IsWritableName : spec.NameRef spec.TextStr → Type 0
IsWritableName (spec.Ref i) = (0 < i) × (i < 2 ^ 32)
IsWritableName (spec.Named t) = IsWritableText t

abbrev pub IsWritable : spec.Instruction → Type 0
IsWritable (spec.Indexed i) = i < 2 ^ 32
IsWritable (spec.Update n) = n < 2 ^ 32
IsWritable (spec.Literal m n v) = IsWritableName n × IsWritableText v

abbrev pub IsWritableField : Field → Type 0
IsWritableField f = (length f.name ≤ 33554432) × (length f.value ≤ 33554432)
