-- Instructions one after another: the octets so far, or that they are too many.
use Rattle.std.proofs.Common.{◌≡◌, ◌∙◌, ◌++◌, ◌<◌, ℕ, Bool, suc, refl, List, Option, Some, None, Result, Ok, Err, IfOk, OnOk, length, sym, ap, subst, option_map, flat_map}
use Rattle.std.specs.Result.{result_and}
use Rattle.h2_spec.specs.Texts.Assemble.{all_at, behind, instruction_at}
use Rattle.h2_spec.specs.Hpack.Instruction.{Instruction}
use Rattle.h2_spec.specs.Texts.Script.{Instructions, instruction_octets}
use Rattle.h2_spec.proofs.ReadingWords.{map_some}
use Rattle.h2_script.specs.Each.{behind_each}
use Rattle.h2_script.specs.Readings.{AddsFirst, WrittenOut}
use Rattle.h2_script.proofs.Eachs.{each_last, each_more, each_none, each_other}

-- what is to be read follows the octets so far
abbrev pub Reaches : Bool → List ℕ → ℕ → List ℕ → List ℕ → Type 0
Reaches long items most rest text =
    (o : List ℕ) × WrittenOut long items o × (behind_each instruction_at instruction_octets o most rest ≡ option_map (flat_map instruction_octets) (all_at instruction_at text))

-- an instruction was written after the octets so far
abbrev pub Writes : Bool → List ℕ → Bool → List ℕ → Instruction → Type 0
Writes long items long' items' i = (o : List ℕ) → WrittenOut long items o → WrittenOut long' items' (o ++ instruction_octets i)

map_none : {A B : Type 0} (f : A → B) (o : Option A) → option_map f o ≡ None → o ≡ None
map_none f None e = refl
map_none f (Some x) e = absurd (cc)

pub reaches_none : (long : Bool) (items : List ℕ) (n most : ℕ) (rest text : List ℕ) → most ≡ suc n → None ≡ instruction_at rest → Reaches long items most rest text → all_at instruction_at text ≡ None
reaches_none long items n most rest text fuel e h =
    map_none (flat_map instruction_octets) (all_at instruction_at text)
    (sym h.2 ∙ ap (λ (k : ℕ). behind_each instruction_at instruction_octets h.0 k rest) fuel ∙ each_none instruction_at instruction_octets h.0 n rest e)

pub reaches_other : (long : Bool) (items : List ℕ) (n most : ℕ) (rest text : List ℕ) (i : Instruction) (left : List ℕ) → most ≡ suc n → Some (i, left) ≡ instruction_at rest → 0 < length left → None ≡ behind 44 left
    → Reaches long items most rest text → all_at instruction_at text ≡ None
reaches_other long items n most rest text i left fuel e some none h =
    map_none (flat_map instruction_octets) (all_at instruction_at text)
    (sym h.2 ∙ ap (λ (k : ℕ). behind_each instruction_at instruction_octets h.0 k rest) fuel ∙ each_other instruction_at instruction_octets h.0 n rest i left e some none)

pub reaches_more : (long long' : Bool) (items items' : List ℕ) (n most : ℕ) (rest text : List ℕ) (i : Instruction) (left more : List ℕ) → most ≡ suc n → Some (i, left) ≡ instruction_at rest → 0 < length left
    → Some more ≡ behind 44 left → Writes long items long' items' i → Reaches long items most rest text → Reaches long' items' n more text
reaches_more long long' items items' n most rest text i left more fuel e some is writes h = (
  h.0 ++ instruction_octets i,
  writes h.0 h.1,
  sym (each_more instruction_at instruction_octets h.0 n rest i left more e some is) ∙ ap (λ (k : ℕ). behind_each instruction_at instruction_octets h.0 k rest) (sym fuel) ∙ h.2,
)

pub reaches_last : (long long' : Bool) (items items' : List ℕ) (n most : ℕ) (rest text : List ℕ) (i : Instruction) (left : List ℕ) → most ≡ suc n → Some (i, left) ≡ instruction_at rest → length left ≡ 0
    → Writes long items long' items' i → Reaches long items most rest text
    → (is : List Instruction) × (option_map Instructions (all_at instruction_at text) ≡ Some (Instructions is)) × WrittenOut long' items' (flat_map instruction_octets is)
reaches_last long long' items items' n most rest text i left fuel e none writes h =
    let whole = sym h.2 ∙ ap (λ (k : ℕ). behind_each instruction_at instruction_octets h.0 k rest) fuel ∙ each_last instruction_at instruction_octets h.0 n rest i left e none in
    let step = map_some (flat_map instruction_octets) (all_at instruction_at text) (h.0 ++ instruction_octets i) whole in
    (step.0, ap (option_map Instructions) step.1, subst (WrittenOut long' items') (sym step.2) (writes h.0 h.1))

-- the answer where the instruction at the front was added, if it was
pub adds_one : {T U E : Type 0} (r : Result T E) (answer : Result (Option U) E) (text : U → List ℕ) (behind : U) (long long' : Bool) (old new : List ℕ) (i : Instruction) (read : Option (Instruction × List ℕ))
    → answer ≡ result_and r (Ok (Some behind)) → Some (i, text behind) ≡ read → OnOk r ((o : List ℕ) → WrittenOut long old o → WrittenOut long' new (o ++ instruction_octets i))
    → IfOk answer (λ left. AddsFirst long old long' new (option_map text left) read)
adds_one (Ok t) answer text behind long long' old new i read e at a = rw e (i, at, a)
adds_one (Err x) answer text behind long long' old new i read e at a = rw e tt
