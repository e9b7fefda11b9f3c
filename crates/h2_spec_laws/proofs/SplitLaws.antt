-- Octets as instructions in a row.
use Rattle.std.proofs.Common.{◌≡◌, ℕ, zero, suc, ◌<◌, ◌≤◌, List, [], ◌∷◌, ◌++◌, length, take, drop, refl, sym, ap, subst, ◌∙◌, arith, length-drop}
use Rattle.std.proofs.Math.Seq.{drop-append_seam}
use Rattle.std.proofs.lemmas.List.{length-take-le, take-append-drop}
use Rattle.h2_spec.specs.Read.{Read, Whole, More, TooLong}
use Rattle.h2_spec.specs.Frames.Parse.{Parsed, after_one, parse_first, parse_all}
use Rattle.h2_spec.specs.Hpack.Instruction.{Shape, IsNone, Splits, instr_at, instr_only, next_shape, split}
use Rattle.h2_spec.proofs.InstructionLaws.{whole-takes, whole-stays, whole-exact}
use Rattle.h2_spec.proofs.ParseLaws as laws

shape-uses : (u : Unit {0}) (b : List ℕ) → laws.Uses b (next_shape u b)
shape-uses u b = at (instr_at b) refl
  where
    at : (r : Read Shape) → instr_at b ≡ r → laws.Uses b (instr_only r)
    at (Whole i used) e = whole-takes b i used e
    at More e = tt
    at TooLong e = tt

shape-stays : (u : Unit {0}) (b c : List ℕ) → laws.Stays (next_shape u b) (next_shape u (b ++ c))
shape-stays u b c = at (instr_at b) refl
  where
    at : (r : Read Shape) → instr_at b ≡ r → laws.Stays (instr_only r) (next_shape u (b ++ c))
    at (Whole i used) e = ap instr_only (whole-stays b c i used e)
    at More e = tt
    at TooLong e = tt

split-step : (b : List ℕ) → split b ≡ parse_first tt b (instr_only (instr_at b)) (λ t rest. parse_all next_shape t rest)
unfolding split
split-step b = laws.parse_all-step next_shape shape-uses tt b

pub split-whole : (b : List ℕ) (i : Shape) (used : ℕ) → instr_at b ≡ Whole i used → split b ≡ after_one i (split (drop used b))
unfolding split
split-whole b i used e = split-step b ∙ ap (λ r. parse_first tt b (instr_only r) (λ t rest. parse_all next_shape t rest)) e

pub split-none : (b : List ℕ) → IsNone (instr_at b) → split b ≡ record { elements = []; state = tt; rest = b }
split-none b none = split-step b ∙ at (instr_at b) none
  where
    at : (r : Read Shape) → IsNone r → parse_first tt b (instr_only r) (λ t rest. parse_all next_shape t rest) ≡ record { elements = []; state = tt; rest = b }
    at (Whole i used) n = absurd n
    at More n = refl
    at TooLong n = refl

-- ---- splitting is a way

way-step : (b : List ℕ) → ((c : List ℕ) → length c < length b → Splits c (split c).elements (split c).rest) → Splits b (split b).elements (split b).rest
way-step b more = at (instr_at b) refl
  where
    none : IsNone (instr_at b) → Splits b (split b).elements (split b).rest
    none n = let P : Parsed (Unit {0}) Shape → Type 0 = λ t. Splits b t.elements t.rest in subst P (sym (split-none b n)) (refl, n)

    at : (r : Read Shape) → instr_at b ≡ r → Splits b (split b).elements (split b).rest
    at (Whole i used) e =
        let takes = whole-takes b i used e in
        let shorter = length-drop used b in
        let exact : instr_at (take used b) ≡ Whole i (length (take used b)) = whole-exact b i used e ∙ ap (λ n. Whole i n) (sym (length-take-le used b takes.1)) in
        let P : Parsed (Unit {0}) Shape → Type 0 = λ t. Splits b t.elements t.rest in
        subst P (sym (split-whole b i used e)) (take used b, drop used b, sym (take-append-drop used b), exact, more (drop used b) (let t0 = takes.0 in let t1 = takes.1 in omega (arith, shorter)))
    at More e = none (subst IsNone (sym e) tt)
    at TooLong e = none (subst IsNone (sym e) tt)

way : (n : ℕ) (b : List ℕ) → length b ≤ n → Splits b (split b).elements (split b).rest
way zero b h = way-step b (λ c less. absurd (omega arith))
way (suc n) b h = way-step b (λ c less. way n c (omega arith))

pub split-splits : (b : List ℕ) → Splits b (split b).elements (split b).rest
split-splits b = way (length b) b (omega arith)

-- ---- and the only one

pub splits-one : (b rest : List ℕ) (is : List Shape) → Splits b is rest → (is ≡ (split b).elements) × (rest ≡ (split b).rest)
splits-one b rest [] s =
    let none = split-none b (subst (λ c. IsNone (instr_at c)) (sym s.0) s.1) in
    (ap (λ (t : Parsed (Unit {0}) Shape). t.elements) (sym none), sym s.0 ∙ ap (λ (t : Parsed (Unit {0}) Shape). t.rest) (sym none))
splits-one b rest (i ∷ is) s =
    let front = s.0 in
    let behind = s.1 in
    let whole : instr_at b ≡ Whole i (length front) = ap instr_at s.2 ∙ whole-stays front behind i (length front) s.3 in
    let rest_is : drop (length front) b ≡ behind = ap (drop (length front)) s.2 ∙ drop-append_seam front behind in
    let here = split-whole b i (length front) whole ∙ ap (λ c. after_one i (split c)) rest_is in
    let later = splits-one behind rest is s.4 in
    (ap (λ js. i ∷ js) later.0 ∙ ap (λ (t : Parsed (Unit {0}) Shape). t.elements) (sym here), later.1 ∙ ap (λ (t : Parsed (Unit {0}) Shape). t.rest) (sym here))

-- ---- in two pieces

-- the shapes of one piece, and then those of what it leaves and the other
abbrev then_split : Parsed (Unit {0}) Shape → List ℕ → Parsed (Unit {0}) Shape
then_split t c = let more = split (t.rest ++ c) in record { elements = t.elements ++ more.elements; state = tt; rest = more.rest }

pub split-append : (b c : List ℕ) → split (b ++ c) ≡ then_split (split b) c
unfolding split
split-append b c = laws.parse_all-append next_shape shape-uses shape-stays (length b) tt b c (omega arith)
