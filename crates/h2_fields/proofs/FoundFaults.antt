-- Where a decoder is after some of its octets, and what it represents after a fragment.
use Rattle.std.proofs.Common.{◌≡◌, ◌≢◌, ℕ, ◌+◌, ◌-◌, ◌<◌, ◌≤◌, List, ◌++◌, length, drop, Some, None, option_map, Err, refl, ap, ◌∙◌, sym, arith, length-drop}
use Rattle.h2_spec.specs.Hpack.Block.{Fault, ZeroIndex, Index, Integer, Huffman, LateUpdate, LargeUpdate, MissingUpdate, Outcome, Unfinished, Faulty, Progress, Decoded, decoded, carried_on}
use Rattle.h2_spec.specs.Hpack.DynamicTable.{Table}
use Rattle.h2_spec.specs.Hpack.Instruction.{Shape, instr_at}
use Rattle.h2_spec.specs.Read.{Whole}
use Rattle.h2_spec.proofs.InstructionLaws.{whole-takes}
use Rattle.h2_fields.specs.Blocks.{BlockSoFar, answer_of, decoded_with, faulted, outcome_of, progress_so_far}
use Rattle.h2_fields.specs.Applied.{IsStopped}
use Rattle.h2_hpack_instruction.specs.Faults.{fault_of}
use Rattle.h2_hpack_instruction.specs.declared.fault.BlockFault.{BlockFault}
use Rattle.h2_hpack_instruction.specs.declared.fault.BlockFault.TheVariants as faults

-- ---- the loop over the instructions

not_truncated : (f : Fault) → fault_of f ≢ faults.Truncated
not_truncated ZeroIndex e = cc
not_truncated Index e = cc
not_truncated Integer e = cc
not_truncated Huffman e = cc
not_truncated LateUpdate e = cc
not_truncated LargeUpdate e = cc
not_truncated MissingUpdate e = cc

not_faulted : (o : Outcome) → faulted o ≡ Some faults.Truncated → ⊥
not_faulted (Unfinished r) e = cc
not_faulted (Faulty f) e = not_truncated f (cc)

-- a block that stops at a fault of its octets has no other
pub stopped-named : (limit : ℕ) (p now : Progress) (b : List ℕ) (f : BlockFault) → IsStopped limit p b now f → f ≢ faults.Truncated
stopped-named limit p now b f s e =
    let other : f ≢ faults.NoMemory = λ m. let clash : faults.Truncated ≡ faults.NoMemory = sym e ∙ m in cc in
    not_faulted (decoded limit p b).outcome ((s.exact other).1 ∙ ap Some e)

-- a whole instruction leaves fewer octets
pub fewer : (b : List ℕ) (at used : ℕ) (i : Shape) → at ≤ length b → instr_at (drop at b) ≡ Whole i used → length b - (at + used) < length b - at
fewer b at used i h e =
    let u = whole-takes (drop at b) i used e in
    omega (arith, h, u.0, u.1, length-drop at b)

-- ---- a fragment more

-- a fault that was found is no end of the octets
pub faulty_outcome : (rest : List ℕ) (f : BlockFault) → f ≢ faults.Truncated → outcome_of rest (Some f) ≢ None → (x : Fault) × (outcome_of rest (Some f) ≡ Some (Faulty x))
faulty_outcome rest faults.NoMemory n h = absurd (h refl)
faulty_outcome rest faults.ZeroIndex n h = (ZeroIndex, refl)
faulty_outcome rest faults.Index n h = (Index, refl)
faulty_outcome rest faults.Integer n h = (Integer, refl)
faulty_outcome rest faults.Huffman n h = (Huffman, refl)
faulty_outcome rest faults.LateUpdate n h = (LateUpdate, refl)
faulty_outcome rest faults.LargeUpdate n h = (LargeUpdate, refl)
faulty_outcome rest faults.MissingUpdate n h = (MissingUpdate, refl)
faulty_outcome rest faults.Truncated n h = absurd (n refl)

-- a fault that shows nothing is that memory was refused
pub shows_nothing : (rest : List ℕ) (f : BlockFault) → outcome_of rest (Some f) ≡ None → f ≡ faults.NoMemory
shows_nothing rest faults.NoMemory h = refl
shows_nothing rest faults.ZeroIndex h = absurd cc
shows_nothing rest faults.Index h = absurd cc
shows_nothing rest faults.Integer h = absurd cc
shows_nothing rest faults.Huffman h = absurd cc
shows_nothing rest faults.LateUpdate h = absurd cc
shows_nothing rest faults.LargeUpdate h = absurd cc
shows_nothing rest faults.MissingUpdate h = absurd cc
shows_nothing rest faults.Truncated h = absurd cc

-- a fault that was found is what a further fragment is answered
pub answers-faulty : (rest : List ℕ) (f : BlockFault) → f ≢ faults.Truncated → Err f ≡ answer_of (outcome_of rest (Some f))
answers-faulty rest faults.NoMemory n = refl
answers-faulty rest faults.ZeroIndex n = refl
answers-faulty rest faults.Index n = refl
answers-faulty rest faults.Integer n = refl
answers-faulty rest faults.Huffman n = refl
answers-faulty rest faults.LateUpdate n = refl
answers-faulty rest faults.LargeUpdate n = refl
answers-faulty rest faults.MissingUpdate n = refl
answers-faulty rest faults.Truncated n = absurd (n refl)

-- a decoder that has a fault stays as it is
pub carried-faulty : (limit : ℕ) (table : Table) (s : BlockSoFar) (piece : List ℕ) (x : Fault) → s.outcome ≡ Some (Faulty x) → decoded_with table s ≡ option_map (λ d. carried_on limit d piece) (decoded_with table s)
unfolding carried_on
carried-faulty limit table s piece x e = rw e refl

-- a decoder that has none goes on with what was left and the piece
pub carried-open : (limit : ℕ) (table : Table) (s : BlockSoFar) (rest piece : List ℕ) → s.outcome ≡ Some (Unfinished rest) → Some (decoded limit (progress_so_far table s) (rest ++ piece)) ≡ option_map (λ d. carried_on limit d piece) (decoded_with table s)
unfolding carried_on
carried-open limit table s rest piece e = rw e refl

-- the outcome that a decoder shows for its fault
pub faulted-outcome : (rest : List ℕ) (o : Outcome) (f : BlockFault) → faulted o ≡ Some f → outcome_of rest (Some f) ≡ Some o
faulted-outcome rest (Unfinished r) f e = absurd cc
faulted-outcome rest (Faulty ZeroIndex) f e = let named : faults.ZeroIndex ≡ f = cc in ap (λ x. outcome_of rest (Some x)) (sym named)
faulted-outcome rest (Faulty Index) f e = let named : faults.Index ≡ f = cc in ap (λ x. outcome_of rest (Some x)) (sym named)
faulted-outcome rest (Faulty Integer) f e = let named : faults.Integer ≡ f = cc in ap (λ x. outcome_of rest (Some x)) (sym named)
faulted-outcome rest (Faulty Huffman) f e = let named : faults.Huffman ≡ f = cc in ap (λ x. outcome_of rest (Some x)) (sym named)
faulted-outcome rest (Faulty LateUpdate) f e = let named : faults.LateUpdate ≡ f = cc in ap (λ x. outcome_of rest (Some x)) (sym named)
faulted-outcome rest (Faulty LargeUpdate) f e = let named : faults.LargeUpdate ≡ f = cc in ap (λ x. outcome_of rest (Some x)) (sym named)
faulted-outcome rest (Faulty MissingUpdate) f e = let named : faults.MissingUpdate ≡ f = cc in ap (λ x. outcome_of rest (Some x)) (sym named)

-- what a decoder shows of a block that it decoded up to a fault
pub shown-faulty : (table : Table) (s : BlockSoFar) (rest : List ℕ) (d : Decoded) (f : BlockFault) → s.outcome ≡ outcome_of rest (Some f) → d.progress ≡ progress_so_far table s → faulted d.outcome ≡ Some f → decoded_with table s ≡ Some d
shown-faulty table s rest d f e k n =
    let outcome : s.outcome ≡ Some d.outcome = e ∙ faulted-outcome rest d.outcome f n in
    rw outcome (ap (λ (p : Progress). let x : Decoded = record { progress = p; outcome = d.outcome } in Some x) (sym k))
