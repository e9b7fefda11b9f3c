-- A fragment that is decoded and not taken over, and the block before it.
use Rattle.std.proofs.Common.{◌≡◌, ◌≢◌, ℕ, Bool, List, [], ◌++◌, length, take, Result, Ok, Err, refl, ap, subst, sym, ◌∙◌}
use Rattle.std.specs.Prelude.{IfErr, OnOk}
use Rattle.std.proofs.lemmas.List.{append-nil}
use Rattle.std.proofs.Math.Seq.{take-append_seam}
use Rattle.h2_fields.specs.Blocks.{faulted}
use Rattle.h2_fields.specs.Applied.{Grows, IsStopped}
use Rattle.h2_hpack_instruction.specs.declared.fault.BlockFault.{BlockFault}
use Rattle.h2_hpack_instruction.specs.declared.fault.BlockFault.TheVariants as fault
use Rattle.h2_fields.specs.declared.collected.Savepoint.{Savepoint}
use Rattle.h2_spec.specs.Hpack.Block.{Decoded, FieldsSoFar, Progress, Unfinished, decoded, list_size, progress_with}
use Rattle.h2_spec.specs.Hpack.DynamicTable.{Table}
use Rattle.h2_spec.specs.Hpack.Field.{Field}
use Rattle.h2_spec.specs.State.{Decoding}
use Rattle.h2_spec.specs.declared.connection.Purpose.{Purpose}
use Rattle.h2_conn.specs.Fragments.{HasFault, IsUntouched, Tentative, after_fragment, before_fragment, before_of}

-- the fields before are those in front
front : (old now : FieldsSoFar) (n : ℕ) → n ≡ length old.fields → Grows old now → take n now.fields ≡ old.fields
front old now n e g = ap (λ k. take k now.fields) e ∙ ap (take (length old.fields)) g.1 ∙ take-append_seam old.fields g.0

-- the block before a fragment is known by the savepoint of its fields and by the octets that were left
pub is-before : (purpose : Purpose) (old now : FieldsSoFar) (rest before : List ℕ) (savepoint : Savepoint) (d : Decoding) →
    record { purpose = purpose; fields = old.fields; due = old.due; rest = rest } ≡ d →
    savepoint ≡ record { count = length old.fields; size = list_size old.fields; due = old.due } → before ≡ rest → Grows old now →
    record { purpose = purpose; fields = take savepoint.count now.fields; due = savepoint.due; rest = before } ≡ d
is-before purpose old now rest before savepoint d view marked same g =
    ap (λ (fields : List Field). block fields savepoint.due before) (front old now savepoint.count (ap (λ (m : Savepoint). m.count) marked) g)
    ∙ ap (λ (due : Bool). block old.fields due before) (ap (λ (m : Savepoint). m.due) marked)
    ∙ ap (λ (left : List ℕ). block old.fields old.due left) same
    ∙ view
  where
    block : List Field → Bool → List ℕ → Decoding
    block fields due left = record { purpose = purpose; fields = fields; due = due; rest = left }

-- and the savepoint has their size
pub is-sized : (old now : FieldsSoFar) (savepoint : Savepoint) → savepoint ≡ record { count = length old.fields; size = list_size old.fields; due = old.due } → Grows old now → savepoint.size ≡ list_size (take savepoint.count now.fields)
is-sized old now savepoint marked g =
    ap (λ (m : Savepoint). m.size) marked ∙ ap list_size (sym (front old now savepoint.count (ap (λ (m : Savepoint). m.count) marked) g))

-- a block with the same octets left is the same
pub same-block : (purpose : Purpose) (old : FieldsSoFar) (rest other : List ℕ) (d : Decoding) → record { purpose = purpose; fields = old.fields; due = old.due; rest = rest } ≡ d → other ≡ rest →
    record { purpose = purpose; fields = old.fields; due = old.due; rest = other } ≡ d
same-block purpose old rest other d view same = ap (λ (left : List ℕ). let d : Decoding = record { purpose = purpose; fields = old.fields; due = old.due; rest = left } in d) same ∙ view

-- no field was added
pub grows-not : (old : FieldsSoFar) → Grows old old
grows-not old = ([], sym (append-nil old.fields))

-- of a block that no fragment is decoded of, the savepoint is the end of its fields, and it is the block before the fragment
pub is-untouched : (purpose : Purpose) (old : FieldsSoFar) (rest before after all : List ℕ) (savepoint : Savepoint) (d : Decoding) (t : Tentative) →
    record { purpose = purpose; fields = old.fields; due = old.due; rest = rest } ≡ d →
    record { savepoint = savepoint; before = before; after = after; all = all } ≡ t → IsUntouched d t →
    (savepoint ≡ record { count = length old.fields; size = list_size old.fields; due = old.due })
    × (record { purpose = purpose; fields = old.fields; due = old.due; rest = before } ≡ before_of d t) × (before ≡ all)
is-untouched purpose old rest before after all savepoint d t view shown u =
    subst (λ (e : Decoding). IsUntouched e t → Known e t) view (subst (λ (s : Tentative). IsUntouched block s → Known block s) shown known) u
  where
    block : Decoding
    block = record { purpose = purpose; fields = old.fields; due = old.due; rest = rest }

    Known : Decoding → Tentative → Type 0
    Known e s = (savepoint ≡ record { count = length old.fields; size = list_size old.fields; due = old.due })
        × (record { purpose = purpose; fields = old.fields; due = old.due; rest = before } ≡ before_of e s) × (before ≡ all)

    known : IsUntouched block (record { savepoint = savepoint; before = before; after = after; all = all }) → Known block (record { savepoint = savepoint; before = before; after = after; all = all })
    known h = (h.0, sym (is-before purpose old old before before savepoint _ refl h.0 refl (grows-not old)), h.1)

-- a fragment of a block, by its fields and the octets that are left
same-decoded : (limit : ℕ) (table : Table) (old : FieldsSoFar) (rest octets : List ℕ) (purpose : Purpose) (d : Decoding) →
    record { purpose = purpose; fields = old.fields; due = old.due; rest = rest } ≡ d →
    decoded limit (before_fragment table d) (d.rest ++ octets) ≡ decoded limit (progress_with table old) (rest ++ octets)
same-decoded limit table old rest octets purpose d view =
    ap (λ (x : Decoding). decoded limit (before_fragment table x) (x.rest ++ octets)) (sym view)

-- a fragment that is decoded
is-decoded : (limit : ℕ) (before after : Table) (old now : FieldsSoFar) (rest octets left : List ℕ) (purpose : Purpose) (d : Decoding) →
    record { purpose = purpose; fields = old.fields; due = old.due; rest = rest } ≡ d →
    decoded limit (progress_with before old) (rest ++ octets) ≡ record { progress = progress_with after now; outcome = Unfinished left } →
    decoded limit (before_fragment before d) (d.rest ++ octets) ≡ after_fragment after (record { purpose = purpose; fields = now.fields; due = now.due; rest = left })
is-decoded limit before after old now rest octets left purpose d view e =
    same-decoded limit before old rest octets purpose d view ∙ e

-- a fragment with a fault
is-faulty : (limit : ℕ) (before : Table) (old : FieldsSoFar) (now : Progress) (rest octets : List ℕ) (purpose : Purpose) (d : Decoding) (f : BlockFault) →
    record { purpose = purpose; fields = old.fields; due = old.due; rest = rest } ≡ d →
    IsStopped limit (progress_with before old) (rest ++ octets) now f → f ≢ fault.NoMemory →
    HasFault f (decoded limit (before_fragment before d) (d.rest ++ octets))
is-faulty limit before old now rest octets purpose d f view s other =
    ap (λ (x : Decoded). faulted x.outcome) (same-decoded limit before old rest octets purpose d view) ∙ (s.exact other).1

-- ---- whatever a fragment is answered

-- it is decoded
pub decoded-answered : (r : Result (Unit {0}) BlockFault) (limit : ℕ) (before after : Table) (old now : FieldsSoFar) (rest octets left : List ℕ) (purpose : Purpose) (d : Decoding) →
    record { purpose = purpose; fields = old.fields; due = old.due; rest = rest } ≡ d →
    OnOk r (decoded limit (progress_with before old) (rest ++ octets) ≡ record { progress = progress_with after now; outcome = Unfinished left }) →
    OnOk r (decoded limit (before_fragment before d) (d.rest ++ octets) ≡ after_fragment after (record { purpose = purpose; fields = now.fields; due = now.due; rest = left }))
decoded-answered (Ok u) limit before after old now rest octets left purpose d view e = is-decoded limit before after old now rest octets left purpose d view e
decoded-answered (Err f) limit before after old now rest octets left purpose d view e = tt

-- or it has a fault
pub faulty-answered : (r : Result (Unit {0}) BlockFault) (limit : ℕ) (before after : Table) (old now : FieldsSoFar) (rest octets : List ℕ) (purpose : Purpose) (d : Decoding) →
    record { purpose = purpose; fields = old.fields; due = old.due; rest = rest } ≡ d →
    IfErr r (λ f. IsStopped limit (progress_with before old) (rest ++ octets) (progress_with after now) f) →
    IfErr r (λ f. f ≢ fault.NoMemory → HasFault f (decoded limit (before_fragment before d) (d.rest ++ octets)))
faulty-answered (Ok u) limit before after old now rest octets purpose d view stopped = tt
faulty-answered (Err f) limit before after old now rest octets purpose d view stopped = λ other. is-faulty limit before old (progress_with after now) rest octets purpose d f view stopped other

-- its fields are those in front of the fault
pub read-answered : (r : Result (Unit {0}) BlockFault) (limit : ℕ) (before after : Table) (old now : FieldsSoFar) (rest octets : List ℕ) (purpose : Purpose) (d : Decoding) →
    record { purpose = purpose; fields = old.fields; due = old.due; rest = rest } ≡ d →
    IfErr r (λ f. IsStopped limit (progress_with before old) (rest ++ octets) (progress_with after now) f) →
    IfErr r (λ f. f ≢ fault.NoMemory → (decoded limit (before_fragment before d) (d.rest ++ octets)).progress.fields ≡ now.fields)
read-answered (Ok u) limit before after old now rest octets purpose d view stopped = tt
read-answered (Err f) limit before after old now rest octets purpose d view stopped = λ other.
    ap (λ (x : Decoded). x.progress.fields) (same-decoded limit before old rest octets purpose d view) ∙ ap (λ (p : Progress). p.fields) (stopped.exact other).0
