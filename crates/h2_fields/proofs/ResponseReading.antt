-- What a decoder reads of the field block of a response.
use Rattle.std.proofs.Common.{◌≡◌, ℕ, zero, suc, ◌+◌, ◌<◌, ◌==◌, Bool, true, false, if◌then◌else◌, List, [], ◌∷◌, ◌++◌, length, map, flat_map, Option, Some, None, Ok, position, codes, get_or, refl, ap, ◌∙◌, subst, arith, append_assoc, eqb-true}
use Rattle.std.proofs.lemmas.List.{append-nil, drop_at}
use Rattle.std.proofs.lemmas.List.Quantifiers.{position-Some}
use Rattle.std.specs.List.{AllByRecursion}
use Rattle.h2_spec.specs.Requests.Answer.{plain_string, plain_literal, indexed_statuses, status_digits, status_at, status_instruction, response_block}
use Rattle.h2_spec.specs.Hpack.Block.{Progress, Unfinished, applied, decoded, start, name_of}
use Rattle.h2_fields.specs.ResponseRead.{read_whole, status_field}
use Rattle.h2_hpack_instruction.specs.Instructions.{IsWritableField}
use Rattle.h2_spec.specs.Hpack.DynamicTable.{Table, field_at, resize}
use Rattle.h2_spec.specs.Hpack.Field.{Field}
use Rattle.h2_spec.specs.Hpack.Instruction.{Shape, WithoutIndexing, Ref, Named, Update, IsSpellable, instr_at, spell}
use Rattle.h2_spec.specs.Read.{Whole}
use Rattle.h2_spec.specs.Hpack.StaticTable.{static_field, static_entries}
use Rattle.h2_spec.proofs.BlockLaws.{leads-start, leads-step, applied-update, applied-indexed, applied-literal, decoded-more}
use Rattle.h2_spec.proofs.InstructionLaws.{whole-stays}
use Rattle.h2_spec.proofs.InstructionWriting.{shape-written}
use Rattle.h2_fields.proofs.Stopping.{empty-more}

-- ---- one instruction after another

step : (limit : ℕ) (p q : Progress) (i : Shape) (more : List ℕ) → IsSpellable i → applied limit p i ≡ Ok q → decoded limit p (spell i ++ more) ≡ decoded limit q more
step limit p q i more h e =
    let b = spell i ++ more in
    let whole : instr_at b ≡ Whole i (length (spell i)) = whole-stays (spell i) more i (length (spell i)) (shape-written i h) in
    let s = leads-step limit p p q b 0 (length (spell i)) i (leads-start limit p b) whole e in
    let count : length (spell i) ≡ 0 + length (spell i) = omega arith in
    s.rest ∙ ap (decoded limit q) (drop_at (spell i) more (0 + length (spell i)) count)

ends : (limit : ℕ) (p : Progress) → decoded limit p [] ≡ record { progress = p; outcome = Unfinished [] }
ends limit p = decoded-more limit p [] (empty-more [] refl)

-- ---- fields

literal-applied : (limit : ℕ) (p : Progress) (f : Field) → p.due ≡ false → applied limit p (plain_literal f) ≡ Ok (record p { fields = p.fields ++ f ∷ [] })
literal-applied limit p f e = applied-literal limit p WithoutIndexing (Named (plain_string f.name)) (plain_string f.value) f.name f.value e refl refl

literal-spellable : (f : Field) → IsWritableField f → IsSpellable (plain_literal f)
literal-spellable f h = (omega (arith, h.0), omega (arith, h.1))

fields-read : (limit : ℕ) (p : Progress) (fields : List Field) → p.due ≡ false → AllByRecursion IsWritableField fields → decoded limit p (flat_map spell (map plain_literal fields)) ≡ read_whole (p.fields ++ fields) p.table
fields-read limit p [] e h = ends limit p ∙ rw (e, append-nil p.fields) refl
fields-read limit p (f ∷ fields) e h =
    let q : Progress = record p { fields = p.fields ++ f ∷ [] } in
    step limit p q (plain_literal f) (flat_map spell (map plain_literal fields)) (literal-spellable f h.0) (literal-applied limit p f e)
    ∙ fields-read limit q fields e h.1
    ∙ ap (λ fs. read_whole fs p.table) (append_assoc p.fields (f ∷ []) fields)

-- ---- the status

indexed-at : (entries : List Field) (place status : ℕ) → get_or indexed_statuses place 0 ≡ status → place < 7 → field_at (8 + place) entries ≡ Some (status_field status)
unfolding field_at static_field static_entries
indexed-at entries zero status e h = subst (λ s. field_at 8 entries ≡ Some (status_field s)) e refl
indexed-at entries (suc zero) status e h = subst (λ s. field_at 9 entries ≡ Some (status_field s)) e refl
indexed-at entries (suc (suc zero)) status e h = subst (λ s. field_at 10 entries ≡ Some (status_field s)) e refl
indexed-at entries (suc (suc (suc zero))) status e h = subst (λ s. field_at 11 entries ≡ Some (status_field s)) e refl
indexed-at entries (suc (suc (suc (suc zero)))) status e h = subst (λ s. field_at 12 entries ≡ Some (status_field s)) e refl
indexed-at entries (suc (suc (suc (suc (suc zero))))) status e h = subst (λ s. field_at 13 entries ≡ Some (status_field s)) e refl
indexed-at entries (suc (suc (suc (suc (suc (suc zero)))))) status e h = subst (λ s. field_at 14 entries ≡ Some (status_field s)) e refl
indexed-at entries (suc (suc (suc (suc (suc (suc (suc n))))))) status e h = absurd (omega (arith, h))

status-name : (entries : List Field) → name_of (Ref 8) entries ≡ Ok (codes ":status")
unfolding field_at static_field static_entries
status-name entries = refl

status-applied : (limit : ℕ) (p : Progress) (status : ℕ) → p.due ≡ false → applied limit p (status_instruction status) ≡ Ok (record p { fields = p.fields ++ status_field status ∷ [] })
status-applied limit p status e = at (position (λ s. s == status) indexed_statuses) refl
  where
    at : (o : Option ℕ) → position (λ s. s == status) indexed_statuses ≡ o → applied limit p (status_at o status) ≡ Ok (record p { fields = p.fields ++ status_field status ∷ [] })
    at (Some place) k =
        let x = position-Some (λ s. s == status) indexed_statuses place 0 k in
        applied-indexed limit p (8 + place) (status_field status) e (indexed-at p.table.entries place status (eqb-true (get_or indexed_statuses place 0) status x.1) x.0)
    at None k = applied-literal limit p WithoutIndexing (Ref 8) (plain_string (status_digits status)) (codes ":status") (status_digits status) e (status-name p.table.entries) refl

status-spellable : (status : ℕ) → IsSpellable (status_instruction status)
status-spellable status = at (position (λ s. s == status) indexed_statuses) refl
  where
    at : (o : Option ℕ) → position (λ s. s == status) indexed_statuses ≡ o → IsSpellable (status_at o status)
    at (Some place) k = let x = position-Some (λ s. s == status) indexed_statuses place 0 k in omega (arith, x.0)
    at None k = ((omega arith, omega arith), omega arith)

-- ---- the block

status-read : (limit : ℕ) (table : Table) (status : ℕ) (fields : List Field) → AllByRecursion IsWritableField fields →
    decoded limit (start table false) (spell (status_instruction status) ++ flat_map spell (map plain_literal fields)) ≡ read_whole (status_field status ∷ fields) table
status-read limit table status fields h =
    let p = start table false in
    let q : Progress = record { fields = status_field status ∷ []; table = table; due = false } in
    step limit p q (status_instruction status) (flat_map spell (map plain_literal fields)) (status-spellable status) (status-applied limit p status refl) ∙ fields-read limit q fields refl h

pub response-read : (limit : ℕ) (table : Table) (size_update_pending : Bool) (status : ℕ) (fields : List Field) → AllByRecursion IsWritableField fields →
    decoded limit (start table false) (response_block size_update_pending status fields) ≡ read_whole (status_field status ∷ fields) (if size_update_pending then resize table 0 else table)
unfolding response_block
response-read limit table true status fields h =
    let block = spell (status_instruction status) ++ flat_map spell (map plain_literal fields) in
    step limit (start table false) (start (resize table 0) false) (Update 0) block (omega arith) (applied-update limit (start table false) 0 refl (omega arith)) ∙ status-read limit (resize table 0) status fields h
response-read limit table false status fields h = status-read limit table status fields h
