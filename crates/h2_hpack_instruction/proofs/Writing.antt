-- What can be written is spelled within the bounds of integers, so it is read back.
use Rattle.std.proofs.Common.{◌≡◌, ℕ, ◌<◌, ◌≤◌, ◌^◌, Bool, true, false, List, ◌++◌, length, Some, arith}
use Rattle.h2_spec.specs.Hpack.Instruction.{NameRef, Ref, Named, TextStr, Indexed, Update, Literal, Instruction, HasTexts, IsSpelling, IsSpellable, IsSpellableName, coded, coded_name, instruction_at, shape_of, spell}
use Rattle.h2_spec.specs.Read.{Whole}
use Rattle.h2_spec.proofs.InstructionTexts.{spelling-read}
use Rattle.h2_spec.proofs.InstructionWriting.{instruction-written}
use Rattle.h2_hpack_instruction.specs.Instructions.{IsWritable, IsWritableName}
use Rattle.h2_hpack_instruction.proofs.Lengths.{string-short}

coded-short : (huffman : Bool) (t : List ℕ) → length t ≤ 33554432 → length (coded huffman t) < 2 ^ 35
coded-short true t h = let short = string-short t h in omega (arith, short)
coded-short false t h = omega (arith, h)

name-short : (name : NameRef TextStr) → IsWritableName name → IsSpellableName (coded_name name)
name-short (Ref i) h = (h.0, omega (arith, h.1))
name-short (Named t) h = coded-short t.huffman t.text h

spellable : (i : Instruction) → IsWritable i → IsSpellable (shape_of i)
spellable (Indexed i) h = omega (arith, h)
spellable (Update n) h = omega (arith, h)
spellable (Literal mode name value) h = (name-short name h.0, coded-short value.huffman value.text h.1)

pub written : (i : Instruction) → IsWritable i → HasTexts i → IsSpelling i (spell (shape_of i))
written i h t = instruction-written i (spellable i h) t

pub read_back : (i : Instruction) (more : List ℕ) → IsWritable i → HasTexts i → instruction_at (spell (shape_of i) ++ more) ≡ Whole (Some i) (length (spell (shape_of i)))
read_back i more h t = spelling-read i (spell (shape_of i)) more (written i h t)
