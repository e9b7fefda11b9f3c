-- A field block as it is kept.
use Rattle.std.proofs.Common.{◌≡◌, ◌≢◌, ℕ, List, ◌++◌, Option, Some, None, refl, ap, sym, ◌∙◌}
use Rattle.h2_spec.specs.Hpack.Block.{Decoded, Fault, FieldsSoFar, Outcome, Progress, Unfinished, Faulty, ZeroIndex, Index, Integer, Huffman, LateUpdate, LargeUpdate, MissingUpdate, carried_on, decoded, progress_with}
use Rattle.h2_spec.specs.Hpack.DynamicTable.{Table}
use Rattle.h2_fields.specs.Applied.{IsStopped}
use Rattle.h2_fields.specs.Blocks.{faulted}
use Rattle.h2_hpack_instruction.specs.Faults.{fault_of}
use Rattle.h2_hpack_instruction.specs.declared.fault.BlockFault.{BlockFault}
use Rattle.h2_hpack_instruction.specs.declared.fault.BlockFault.TheVariants as faults
use Rattle.h2_cmd_judge.specs.ServerFrames.{block_seen, ends_by, faulty}

-- one that has a fault stays
pub carried-faulty : (limit : ℕ) (p : Progress) (o : Option Outcome) (piece : List ℕ) → carried_on limit (record { progress = p; outcome = faulty o }) piece ≡ record { progress = p; outcome = faulty o }
unfolding carried_on
carried-faulty limit p (Some (Faulty fault)) piece = refl
carried-faulty limit p (Some (Unfinished rest)) piece = refl
carried-faulty limit p None piece = refl

-- one that has none is decoded on
pub carried-open : (limit : ℕ) (table : Table) (fields : FieldsSoFar) (rest piece : List ℕ) → decoded limit (progress_with table fields) (rest ++ piece) ≡ carried_on limit (block_seen table fields rest None) piece
unfolding carried_on
carried-open limit table fields rest piece = refl

-- a fault is kept as the definitions name it
named : (rest : List ℕ) (x : Fault) → ends_by rest (Some (fault_of x)) ≡ Faulty x
named rest ZeroIndex = refl
named rest Index = refl
named rest Integer = refl
named rest Huffman = refl
named rest LateUpdate = refl
named rest LargeUpdate = refl
named rest MissingUpdate = refl

kept : (rest : List ℕ) (o : Outcome) (f : BlockFault) → faulted o ≡ Some f → ends_by rest (Some f) ≡ o
kept rest (Unfinished r) f e = absurd cc
kept rest (Faulty x) f e = let same : f ≡ fault_of x = cc in ap (λ g. ends_by rest (Some g)) same ∙ named rest x

-- a block that is decoded up to a fault, with the fault
pub stopped-seen : (limit : ℕ) (p : Progress) (b : List ℕ) (table : Table) (fields : FieldsSoFar) (rest : List ℕ) (f : BlockFault) → IsStopped limit p b (progress_with table fields) f → f ≢ faults.NoMemory →
    block_seen table fields rest (Some f) ≡ decoded limit p b
stopped-seen limit p b table fields rest f s other =
    let exact = s.exact other in
    let d = decoded limit p b in
    let seen = λ (q : Progress) (o : Outcome). let x : Decoded = record { progress = q; outcome = o } in x in
    ap (λ q. seen q (ends_by rest (Some f))) (sym exact.0) ∙ ap (seen d.progress) (kept rest d.outcome f exact.1)
