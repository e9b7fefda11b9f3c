-- How far the loop over the instructions has got.
use Rattle.std.proofs.Common.{◌≡◌, ◌==◌, true, ◌≢◌, ℕ, zero, suc, Bool, List, [], ◌∷◌, ◌++◌, length, take, drop, Some, refl, ap, ◌∙◌, sym, arith}
use Rattle.std.proofs.lemmas.Bool.{eqb-true}
use Rattle.std.proofs.lemmas.List.{append-nil, append_assoc}
use Rattle.std.proofs.Math.Seq.{take-append_seam}
use Rattle.h2_spec.specs.Hpack.Block.{FieldsSoFar, Progress, applied, list_size}
use Rattle.h2_spec.specs.Hpack.Field.{Field}
use Rattle.h2_spec.specs.Hpack.Instruction.{Shape, instr_at}
use Rattle.h2_spec.specs.Read.{Whole, More, TooLong}
use Rattle.h2_spec.proofs.BlockLaws.{LeadsTo, leads-refused, leads-too_long}
use Rattle.h2_fields.specs.Blocks.{faulted}
use Rattle.h2_fields.specs.Applied.{Grows, IsStopped}
use Rattle.h2_fields.specs.declared.collected.Savepoint.{Savepoint}
use Rattle.h2_hpack_instruction.specs.Faults.{refusal}
use Rattle.h2_hpack_instruction.specs.Resume.{IsPoint, IsRest}
use Rattle.h2_hpack_instruction.specs.declared.shape.Point.{Point}
use Rattle.h2_hpack_instruction.specs.declared.fault.BlockFault.{BlockFault}
use Rattle.h2_hpack_instruction.specs.declared.fault.BlockFault.TheVariants as faults
use Rattle.h2_fields.proofs.Applying.{refused}

pub grows-start : (s : FieldsSoFar) → Grows s s
grows-start s = ([], sym (append-nil s.fields))

pub grows-then : (a b c : FieldsSoFar) → Grows a b → Grows b c → Grows a c
grows-then a b c h k = (h.0 ++ k.0, k.1 ∙ ap (λ fs. fs ++ k.0) h.1 ∙ append_assoc a.fields h.0 k.0)

-- the first fields are those before
pub grows-taken : (old new : FieldsSoFar) → Grows old new → take (length old.fields) new.fields ≡ old.fields
grows-taken old new h = ap (take (length old.fields)) h.1 ∙ take-append_seam old.fields h.0

-- the place after the fields of a block
abbrev pub saved : FieldsSoFar → Savepoint
saved s = record { count = length s.fields; size = list_size s.fields; due = s.due }

-- where more fields were added, their size can be taken back to what it was
pub saved-size : (old mid : FieldsSoFar) (place : Savepoint) → place ≡ saved old → Grows old mid → place.size ≡ list_size (take place.count mid.fields)
saved-size old mid place e h =
    ap (λ (m : Savepoint). m.size) e ∙ ap list_size (sym (ap (λ (m : Savepoint). take m.count mid.fields) e ∙ grows-taken old mid h))

-- and all is as it was
pub saved-restored : (old mid new : FieldsSoFar) (place : Savepoint) → place ≡ saved old → Grows old mid → new ≡ record { fields = take place.count mid.fields; due = place.due } → new ≡ old
saved-restored old mid new place e h n =
    let so_far = λ (fields : List Field) (due : Bool). let s : FieldsSoFar = record { fields = fields; due = due } in s in
    n ∙ ap (λ (m : Savepoint). so_far (take m.count mid.fields) m.due) e ∙ ap (λ fields. so_far fields old.due) (grows-taken old mid h)

-- where memory was refused nothing is said
pub memory-stopped : (limit : ℕ) (p now : Progress) (b : List ℕ) → IsStopped limit p b now faults.NoMemory
memory-stopped limit p now b = record { exact = λ h. absurd (h refl) }

-- an instruction is refused
pub refused-stopped : (limit m : ℕ) (p q now : Progress) (b : List ℕ) (at used : ℕ) (i : Shape) (f : BlockFault) → LeadsTo limit p b at q → m ≡ limit → instr_at (drop at b) ≡ Whole i used →
    (f ≢ faults.NoMemory → (now ≡ q) × (refusal (applied m q i) ≡ Some f)) → IsStopped limit p b now f
refused-stopped limit m p q now b at used i f s same e k = record {
  exact = λ h.
      let t = k h in
      let r = refused (applied limit q i) f (ap (λ l. refusal (applied l q i)) (sym same) ∙ t.1) in
      let d = leads-refused limit p q b at used i r.fault s e r.is in
      (ap (λ x. x.progress) d ∙ sym t.0, ap (λ x. faulted x.outcome) d ∙ ap Some r.named);
}

-- an integer is too long
pub too_long-stopped : (limit : ℕ) (p q : Progress) (b : List ℕ) (at : ℕ) → LeadsTo limit p b at q → instr_at (drop at b) ≡ TooLong → IsStopped limit p b q faults.Integer
too_long-stopped limit p q b at s e = record {
  exact = λ _. let d = leads-too_long limit p q b at s e in (ap (λ x. x.progress) d, ap (λ x. faulted x.outcome) d);
}

-- where there are no octets, more are needed
pub empty-more : (b : List ℕ) → (length b == 0) ≡ true → instr_at b ≡ More
unfolding instr_at
empty-more [] e = refl
empty-more (o ∷ b) e = absurd (let none = eqb-true (length (o ∷ b)) 0 e in omega (arith, none))

-- ---- where nothing was left

pub none_taken : (k : ℕ) (b : List ℕ) → b ≡ [] → take k b ≡ []
none_taken zero b e = refl
none_taken (suc k) [] e = refl
none_taken (suc k) (o ∷ b) e = absurd cc

pub none_dropped : (k : ℕ) (b : List ℕ) → b ≡ [] → drop k b ≡ []
none_dropped zero b e = e
none_dropped (suc k) [] e = refl
none_dropped (suc k) (o ∷ b) e = absurd cc

-- reading begins anew after the last octet
pub start-rest : (b : List ℕ) (p : Point) → IsPoint b p → p.passed ≡ 0 → (length b == 0) ≡ true → IsRest b p
start-rest b p h z e =
    let none = eqb-true (length b) 0 e in
    record { point = h; passed = omega (arith, z); again = omega (arith, none) }

pub none_left : (b : List ℕ) → (length b == 0) ≡ true → b ≡ []
none_left [] e = refl
none_left (o ∷ b) e = absurd (let none = eqb-true (length (o ∷ b)) 0 e in omega (arith, none))
