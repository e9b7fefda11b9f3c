use Rattle.std.proofs.Common.{◌≡◌, ◌++◌, ◌∷◌, ◌-◌, ◌^◌, Bool, List, [], Some, length, refl, min, ap, ◌∙◌, sym, arith, length-append, append_assoc}
use Rattle.std.proofs.lemmas.Result.{err_from_is_err_and}
use Rattle.h2_spec.specs.Hpack.Block.{FieldsSoFar, text_result}
use Rattle.h2_spec.specs.Hpack.Field.{Field, field, size}
use Rattle.h2_spec.specs.Hpack.Instruction.{text_of}
use Rattle.h2_hpack_list.specs.Listed.{Listed}
use Rattle.h2_hpack_instruction.specs.Shapes.{string_of}
use Rattle.h2_hpack_validity.specs.Mark.{mark_of}
use Rattle.h2_fields.specs.Applied.{first_refusal}
use Rattle.h2_fields.proofs.Applying.{marks-added, name-refused, read-refused, room-reserved, still-listed, within-more, parts, put-next, both-next, spelled, size-behind}
use Rattle.h2_fields.proofs.collected.Collected.add_spelled.Goals as goal

so_far : List Field → Bool → FieldsSoFar
so_far fields due = record { fields = fields; due = due }

pub invariant_of-self-2 : goal.invariant_of-self-2
invariant_of-self-2 g c =
    let l = c.self.inside.list in
    let name = c.in_ok-put_text.ensures.text in
    let value = c.in_ok-put_text-2.ensures.text in
    let fields = spelled l c.clear_next.new.self c.put_text.new.list c.put_text-2.new.list c.close.new.self name.0 value.0 _ c.clear_next.ensures name.2 value.2 (ap length c.next-split.ensures) c.in_ok-close.ensures.ok in
    let next : c.put_text-2.new.list.next ≡ name.0 ++ value.0 = both-next l c.clear_next.new.self c.put_text.new.list c.put_text-2.new.list name.0 value.0 c.clear_next.ensures name.2 value.2 in
    let count : c.size_of-size.result ≡ min (size (field name.0 value.0)) (2 ^ 64 - 1) = omega (arith, c.size_of-size.ensures, ap length c.next-2.ensures, ap length next, length-append name.0 value.0) in
    let first = ap length (c.next-split.ensures ∙ put-next l c.clear_next.new.self c.put_text.new.list name.0 c.clear_next.ensures name.2) in
    let mark = c.mark_of_parts-mark.ensures ∙ ap mark_of (parts c.next.result.now name.0 value.0 _ (c.next.ensures ∙ next) first) in (
      c.saturating_add-self-inside.ensures ∙ size-behind c.self.inside.shared l.fields _ (field name.0 value.0) c.self.inside.size c.size_of-size.result c.self.invariant.0 count fields,
      c.push_reserved.ensures.items ∙ ap (λ ms. ms ++ c.mark_of_parts-mark.result ∷ []) c.in_ok-reserve.ensures.items ∙ marks-added c.self.inside.marks.items l.fields _ (field name.0 value.0) c.mark_of_parts-mark.result c.self.invariant.1 mark fields,
    )

pub returns : goal.returns
unfolding so_far
returns g c =
    let l = c.self.inside.list in
    let name = c.in_ok-put_text.ensures.text in
    let value = c.in_ok-put_text-2.ensures.text in
    let fields = spelled l c.clear_next.new.self c.put_text.new.list c.put_text-2.new.list c.close.new.self name.0 value.0 _ c.clear_next.ensures name.2 value.2 (ap length c.next-split.ensures) c.in_ok-close.ensures.ok in
    (field name.0 value.0, ap text_result name.1, ap text_result value.1, ap (λ (fs : List Field). so_far fs c.self.inside.due) (ap (λ (fs : List Field). c.self.inside.shared ++ fs) fields ∙ sym (append_assoc c.self.inside.shared l.fields (field name.0 value.0 ∷ []))) ∙ ap (λ (s : FieldsSoFar). so_far (s.fields ++ field name.0 value.0 ∷ []) s.due) c.self.view_is)

pub invariant_of-self : goal.invariant_of-self
invariant_of-self g c =
    let l = c.self.inside.list in
    let same : l.fields ≡ l.fields = refl in
    still-listed c.self.inside.size c.self.inside.shared l.fields l.fields c.reserve.new.self.items c.self.inside.marks.items (c.self.invariant.0, c.self.invariant.1) same c.in_err-reserve.ensures.items

pub returns-in_err-reserve : goal.returns-in_err-reserve
unfolding so_far
returns-in_err-reserve g c =
    let l = c.self.inside.list in
    let same : l.fields ≡ l.fields = refl in
    let r = err_from_is_err_and c.from_residual.result c.from_residual.ensures.1 in
    read-refused _ _ c.args.self.now _ c.from_residual.result r.0 r.1 (ap (λ (fs : List Field). so_far (c.self.inside.shared ++ fs) c.self.inside.due) same ∙ c.self.view_is) (λ other. absurd (other r.2))

pub invariant_of-self-in_err-put_text : goal.invariant_of-self-in_err-put_text
invariant_of-self-in_err-put_text g c =
    let l = c.self.inside.list in
    let same : c.put_text.new.list.fields ≡ l.fields = ap (λ (m : Listed). m.fields) (c.in_err-put_text.ensures.unchanged ∙ c.clear_next.ensures) in
    still-listed c.self.inside.size c.self.inside.shared l.fields c.put_text.new.list.fields c.reserve.new.self.items c.self.inside.marks.items (c.self.invariant.0, c.self.invariant.1) same c.in_ok-reserve.ensures.items

pub returns-in_err-put_text : goal.returns-in_err-put_text
unfolding so_far
returns-in_err-put_text g c =
    let l = c.self.inside.list in
    let same : c.put_text.new.list.fields ≡ l.fields = ap (λ (m : Listed). m.fields) (c.in_err-put_text.ensures.unchanged ∙ c.clear_next.ensures) in
    let r = err_from_is_err_and c.from_residual-in_err-put_text.result c.from_residual-in_err-put_text.ensures.1 in
    read-refused _ _ c.args.self.now _ c.from_residual-in_err-put_text.result r.0 r.1 (ap (λ (fs : List Field). so_far (c.self.inside.shared ++ fs) c.self.inside.due) same ∙ c.self.view_is) (λ other. name-refused _ _ _ (c.in_err-put_text.ensures.fault (λ e. other (r.2 ∙ e)) ∙ ap Some (sym r.2)))

pub invariant_of-self-in_err-put_text-2 : goal.invariant_of-self-in_err-put_text-2
invariant_of-self-in_err-put_text-2 g c =
    let l = c.self.inside.list in
    let put = c.in_ok-put_text.ensures.text.2 ∙ ap (λ (m : Listed). let n : Listed = record m { next = m.next ++ c.in_ok-put_text.ensures.text.0 } in n) c.clear_next.ensures in
    let same : c.put_text-2.new.list.fields ≡ l.fields = ap (λ (m : Listed). m.fields) (c.in_err-put_text-2.ensures.unchanged ∙ put) in
    still-listed c.self.inside.size c.self.inside.shared l.fields c.put_text-2.new.list.fields c.reserve.new.self.items c.self.inside.marks.items (c.self.invariant.0, c.self.invariant.1) same c.in_ok-reserve.ensures.items

pub returns-in_err-put_text-2 : goal.returns-in_err-put_text-2
unfolding so_far
returns-in_err-put_text-2 g c =
    let l = c.self.inside.list in
    let put = c.in_ok-put_text.ensures.text.2 ∙ ap (λ (m : Listed). let n : Listed = record m { next = m.next ++ c.in_ok-put_text.ensures.text.0 } in n) c.clear_next.ensures in
    let same : c.put_text-2.new.list.fields ≡ l.fields = ap (λ (m : Listed). m.fields) (c.in_err-put_text-2.ensures.unchanged ∙ put) in
    let r = err_from_is_err_and c.from_residual-in_err-put_text-2.result c.from_residual-in_err-put_text-2.ensures.1 in
    read-refused _ _ c.args.self.now _ c.from_residual-in_err-put_text-2.result r.0 r.1 (ap (λ (fs : List Field). so_far (c.self.inside.shared ++ fs) c.self.inside.due) same ∙ c.self.view_is) (λ other. ap (λ n. first_refusal n (text_result (text_of (string_of c.args.value)))) (ap text_result c.in_ok-put_text.ensures.text.1) ∙ c.in_err-put_text-2.ensures.fault (λ e. other (r.2 ∙ e)) ∙ ap Some (sym r.2))

pub invariant_of-self-in_err-close : goal.invariant_of-self-in_err-close
invariant_of-self-in_err-close g c =
    let l = c.self.inside.list in
    let same : c.close.new.self.fields ≡ l.fields = ap (λ (m : Listed). m.fields) c.in_err-close.ensures.err ∙ ap (λ (m : Listed). m.fields) c.in_ok-put_text-2.ensures.text.2 ∙ ap (λ (m : Listed). m.fields) c.in_ok-put_text.ensures.text.2 ∙ ap (λ (m : Listed). m.fields) c.clear_next.ensures in
    still-listed c.self.inside.size c.self.inside.shared l.fields c.close.new.self.fields c.reserve.new.self.items c.self.inside.marks.items (c.self.invariant.0, c.self.invariant.1) same c.in_ok-reserve.ensures.items

pub returns-in_err-close : goal.returns-in_err-close
unfolding so_far
returns-in_err-close g c =
    let l = c.self.inside.list in
    let same : c.close.new.self.fields ≡ l.fields = ap (λ (m : Listed). m.fields) c.in_err-close.ensures.err ∙ ap (λ (m : Listed). m.fields) c.in_ok-put_text-2.ensures.text.2 ∙ ap (λ (m : Listed). m.fields) c.in_ok-put_text.ensures.text.2 ∙ ap (λ (m : Listed). m.fields) c.clear_next.ensures in
    let r = err_from_is_err_and c.from_residual-in_err-close.result c.from_residual-in_err-close.ensures.1 in
    read-refused _ _ c.args.self.now _ c.from_residual-in_err-close.result r.0 r.1 (ap (λ (fs : List Field). so_far (c.self.inside.shared ++ fs) c.self.inside.due) same ∙ c.self.view_is) (λ other. absurd (other r.2))

pub mark_of_parts-mark-requires : goal.mark_of_parts-mark-requires
mark_of_parts-mark-requires g c =
    let text = c.in_ok-put_text-2.ensures.text in
    within-more c.next-split.result.now c.put_text.new.list.next c.next.result.now text.0 c.next-split.ensures (c.next.ensures ∙ ap (λ (m : Listed). m.next) text.2)

pub close-requires : goal.close-requires
close-requires g c =
    let text = c.in_ok-put_text-2.ensures.text in
    record { within = within-more c.next-split.result.now c.put_text.new.list.next c.put_text-2.new.list.next text.0 c.next-split.ensures (ap (λ (m : Listed). m.next) text.2) }

pub push_reserved-requires : goal.push_reserved-requires
push_reserved-requires g c = room-reserved _ _ c.in_ok-reserve.ensures.ok
