use Rattle.std.proofs.Common.{◌≡◌, ℕ, zero, suc, ◌+◌, ◌<◌, List, [], ◌∷◌, ◌++◌, length, get_or, drop, flat_map, map, ap, ◌∙◌, subst, sym, arith, add-one, append_assoc, drop-cons}
use Rattle.std.specs.List.{AllByRecursion}
use Rattle.std.proofs.lemmas.List.{append-nil, drop_all}
use Rattle.h2_spec.specs.Requests.Answer.{plain_literal}
use Rattle.h2_spec.specs.Hpack.Field.{Field}
use Rattle.h2_spec.specs.Hpack.Instruction.{spell}
use Rattle.h2_hpack_instruction.specs.Instructions.{IsWritableField}
use Rattle.h2_hpack_instruction.proofs.response.write_fields.Goals as goal

-- one field more is written
one-more : (fields : List Field) (i : ℕ) (f : Field) (old new all : List ℕ) → i < length fields → f ≡ get_or fields i f → new ≡ old ++ spell (plain_literal f) →
    old ++ flat_map spell (map plain_literal (drop i fields)) ≡ all → new ++ flat_map spell (map plain_literal (drop (i + 1) fields)) ≡ all
one-more fields i f old new all l e w h =
    let next : drop i fields ≡ f ∷ drop (suc i) fields = drop-cons fields i f l ∙ ap (λ (x : Field). x ∷ drop (suc i) fields) (sym e) in
    let rest = flat_map spell (map plain_literal (drop (suc i) fields)) in
    let more : new ++ rest ≡ all =
    ap (λ (x : List ℕ). x ++ rest) w ∙ append_assoc old (spell (plain_literal f)) rest ∙ ap (λ (fs : List Field). old ++ flat_map spell (map plain_literal fs)) (sym next) ∙ h in
    rw add-one more

writable-at : (fields : List Field) (i : ℕ) (d : Field) → AllByRecursion IsWritableField fields → i < length fields → IsWritableField (get_or fields i d)
writable-at [] i d h l = absurd (omega arith)
writable-at (f ∷ fields) zero d h l = h.0
writable-at (f ∷ fields) (suc i) d h l = writable-at fields i d h.1 (omega arith)

pub write_field-requires : goal.write_field-requires
write_field-requires g c = subst IsWritableField (sym c.field-item.is) (writable-at c.args.fields.now c.loop-field.field-index c.field-item.result c.requires c.loop-field-test.true)

pub loop-field-preserved : goal.loop-field-preserved
loop-field-preserved g c =
    one-more c.args.fields.now c.loop-field.field-index c.field-item.result c.loop-field.block.items c.write_field.new.block.items _ c.loop-field-test.true c.field-item.is c.in_ok-write_field.ensures.ok c.loop-field.invariant

pub returns : goal.returns
returns g c =
    let spelled = λ (fs : List Field). c.loop-field.block.items ++ flat_map spell (map plain_literal fs) in
    record { ok = sym (append-nil c.loop-field.block.items) ∙ ap spelled (sym (drop_all c.loop-field.field-index c.args.fields.now c.loop-field-test.false)) ∙ c.loop-field.invariant }
