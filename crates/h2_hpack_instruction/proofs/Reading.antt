-- What the code reads at the front of octets is what the definitions have there.
use Rattle.std.proofs.Common.{◌≡◌, ℕ, ◌-◌, ◌%◌, ◌<◌, ◌≤◌, List, [], ◌∷◌, length, Option, Some, None, IsSome, refl, ap, ◌∙◌, sym, subst, arith, le-leb, lt-ltb}
use Rattle.h2_spec.specs.Hpack.Instruction.{Shape, Instruction, Indexed, instr_at, instruction_of, instruction_at}
use Rattle.h2_spec.specs.Hpack.Integer.{int_at}
use Rattle.h2_spec.specs.Read.{Whole, More, TooLong, read_map}
use Rattle.h2_hpack_instruction.specs.Instructions.{HasInstruction}

pub instr-none : (b : List ℕ) → length b ≡ 0 → More ≡ instr_at b
unfolding instr_at
instr-none [] e = refl
instr-none (o ∷ b) e = absurd (omega arith)

-- an index of one octet
pub short-index : (o : ℕ) (b : List ℕ) → 128 ≤ o → o < 255 → instr_at (o ∷ b) ≡ Whole (Indexed (o - 128)) 1
unfolding instr_at int_at
short-index o b h k =
    let index : o % 128 ≡ o - 128 = omega (arith, h, k) in
    let small : o - 128 < 127 = omega (arith, h, k) in
    rw (le-leb 128 o h, index, lt-ltb (o - 128) 127 small) refl

-- ---- an instruction by its texts

pub texts-whole : (b : List ℕ) (shape : Shape) (used : ℕ) (i : Option Instruction) → Whole shape used ≡ instr_at b → instruction_of shape ≡ i → Whole i used ≡ instruction_at b
unfolding instruction_at
texts-whole b shape used i e k = ap (λ x. Whole x used) (sym k) ∙ ap (read_map instruction_of) e

pub texts-more : (b : List ℕ) → More ≡ instr_at b → More ≡ instruction_at b
unfolding instruction_at
texts-more b e = ap (read_map instruction_of) e

pub texts-too_long : (b : List ℕ) → TooLong ≡ instr_at b → TooLong ≡ instruction_at b
unfolding instruction_at
texts-too_long b e = ap (read_map instruction_of) e

has-whole : (i : Option Instruction) (used : ℕ) → IsSome i → HasInstruction (Whole i used)
has-whole (Some i) used h = tt
has-whole None used h = absurd cc

pub has-texts : (b : List ℕ) (shape : Shape) (used : ℕ) → Whole shape used ≡ instr_at b → IsSome (instruction_of shape) → HasInstruction (instruction_at b)
has-texts b shape used e h = subst HasInstruction (texts-whole b shape used (instruction_of shape) e refl) (has-whole (instruction_of shape) used h)
