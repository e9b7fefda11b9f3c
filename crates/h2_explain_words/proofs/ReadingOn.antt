-- Reading on over octets, instruction by instruction.
use Rattle.std.proofs.Common.{◌≡◌, ℕ, ◌≤◌, ◌<◌, Bool, true, false, cond, List, ◌++◌, length, drop, Option, Some, None, Result, Ok, Err, refl, ap, ◌∙◌, sym}
use Rattle.h2_spec.specs.Hpack.Instruction.{Shape, instr_at}
use Rattle.h2_spec.specs.Frames.Parse.{Front, Stop, One, Parsed, parse_first, parse_all}
use Rattle.h2_spec.specs.Read.{Read, Whole, More, TooLong}
use Rattle.h2_spec.proofs.InstructionLaws.{Within, Takes, instr-within, instr-takes, whole-takes}
use Rattle.h2_spec.proofs.ParseLaws as laws
use Rattle.h2_hpack_instruction.specs.Shapes.{read_of, shape_of}
use Rattle.h2_hpack_instruction.specs.declared.shape.Shape as code
use Rattle.h2_hpack_instruction.specs.declared.shape.ShapeFault.{ShapeFault}
use Rattle.h2_hpack_instruction.specs.declared.shape.ShapeFault.TheVariants as cut
use Rattle.h2_explain_words.specs.Spelled.{BlockSpelled, Taken, after, next_taken, read_to, taken, taken_if}

taken-uses : (b : List ℕ) (i : Shape) (used : ℕ) (t : Option Taken) → 0 < used → used ≤ length b → laws.Uses b (taken_if i used t)
taken-uses b i used (Some t) h k = (h, k)
taken-uses b i used None h k = tt

read-uses : (count limit : ℕ) (t : Taken) (b : List ℕ) (r : Read Shape) → Within (length b) r → Takes r → laws.Uses b (taken count limit t r)
read-uses count limit t b (Whole i used) h k = taken-uses b i used (after count limit t i) k h
read-uses count limit t b More h k = tt
read-uses count limit t b TooLong h k = tt

next-uses : (count limit : ℕ) (t : Taken) (b : List ℕ) → laws.Uses b (next_taken count limit t b)
unfolding next_taken
next-uses count limit t b = read-uses count limit t b (instr_at b) (instr-within b) (instr-takes b)

-- where reading has got, without the instructions
reached : Parsed Taken Shape → BlockSpelled
reached p = record { taken = p.state; rest = p.rest }

by_first : (count limit : ℕ) → Taken → List ℕ → Front Taken Shape → BlockSpelled
by_first count limit t b x = reached (parse_first t b x (λ u rest. parse_all (next_taken count limit) u rest))

first : (count limit : ℕ) (t : Taken) (b : List ℕ) → read_to count limit t b ≡ by_first count limit t b (next_taken count limit t b)
unfolding read_to reached by_first
first count limit t b = ap reached (laws.parse_all-step (next_taken count limit) (next-uses count limit) t b)

-- a whole instruction that was carried out, and then the rest
pub read-on : (count limit : ℕ) (t u : Taken) (b : List ℕ) (i : Shape) (used : ℕ) → instr_at b ≡ Whole i used → after count limit t i ≡ Some u → read_to count limit t b ≡ read_to count limit u (drop used b)
unfolding read_to reached by_first next_taken
read-on count limit t u b i used e k =
    let one : next_taken count limit t b ≡ One i u used = ap (taken count limit t) e ∙ ap (taken_if i used) k in
    first count limit t b ∙ ap (by_first count limit t b) one

stays : (count limit : ℕ) (t : Taken) (b : List ℕ) → next_taken count limit t b ≡ Stop → read_to count limit t b ≡ record { taken = t; rest = b }
unfolding reached by_first
stays count limit t b e = first count limit t b ∙ ap (by_first count limit t b) e

-- a whole instruction that was not carried out
pub read-stays : (count limit : ℕ) (t : Taken) (b : List ℕ) (i : Shape) (used : ℕ) → instr_at b ≡ Whole i used → after count limit t i ≡ None → read_to count limit t b ≡ record { taken = t; rest = b }
unfolding next_taken
read-stays count limit t b i used e k = stays count limit t b (ap (taken count limit t) e ∙ ap (taken_if i used) k)

pub read-more : (count limit : ℕ) (t : Taken) (b : List ℕ) → instr_at b ≡ More → read_to count limit t b ≡ record { taken = t; rest = b }
unfolding next_taken
read-more count limit t b e = stays count limit t b (ap (taken count limit t) e)

pub read-too_long : (count limit : ℕ) (t : Taken) (b : List ℕ) → instr_at b ≡ TooLong → read_to count limit t b ≡ record { taken = t; rest = b }
unfolding next_taken
read-too_long count limit t b e = stays count limit t b (ap (taken count limit t) e)

-- ---- by what the code has read at the front of octets

pub step-taken : (count limit : ℕ) (old now : Taken) (b : List ℕ) (i : Shape) (used : ℕ) → instr_at b ≡ Whole i used → Some now ≡ after count limit old i →
    (0 < used) × (used ≤ length b) × (read_to count limit old b ≡ read_to count limit now (drop used b))
step-taken count limit old now b i used e k = let u = whole-takes b i used e in (u.0, u.1, read-on count limit old now b i used e (sym k))

pub step-stays : (count limit : ℕ) (old now : Taken) (b : List ℕ) (i : Shape) (used : ℕ) → instr_at b ≡ Whole i used → None ≡ after count limit old i → now ≡ old →
    read_to count limit old b ≡ record { taken = now; rest = b }
step-stays count limit old now b i used e k same = rw same (read-stays count limit old b i used e (sym k))

pub step-none : (count limit : ℕ) (old : Taken) (b : List ℕ) (fault : ShapeFault) → read_of shape_of (let r : Result (code.Shape × ℕ) ShapeFault = Err fault in r) ≡ instr_at b → read_to count limit old b ≡ record { taken = old; rest = b }
step-none count limit old b (cut.More next) e = read-more count limit old b (sym e)
step-none count limit old b cut.TooLong e = read-too_long count limit old b (sym e)
